use Rattle.pref_sky.proofs.Common.{◌≡◌, ◌<◌, get_or, All-permutation, Among, IsPermutation, IsPermutation-map, ap, arith, length, length-map, map, rules, subst, take_all}
use Rattle.pref_sky.proofs.ChainLaws.{in_order_from_sort_by}
use Rattle.pref_sky.proofs.GroupedLaws.{order_chain}
use Rattle.pref_sky.proofs.ListLaws.{among_place, same_if_permuted}
use Rattle.pref_sky.specs.Grouped.{stands_before, entries}
use Rattle.pref_sky.specs.declared.grouped.Placed.{Placed}
use Rattle.pref_sky.proofs.grouped.by_group.Goals as goal

pub returns : goal.returns
returns c =
    let columns = c.args.columns.now in
    let ranked = c.args.ranked.now in
    let placed = c.loop-place.placed.items in
    let sorted = c.sort_unstable_by.new.self.items in
    let moved = c.sort_unstable_by.ensures.permutation in
    let whole : entries placed ≡ ranked = grind (arith, take_all) in
    let places = map (λ (p : Placed). p.place) in
    record {
      moved = subst (λ l. IsPermutation l (entries sorted)) whole (IsPermutation-map (λ (p : Placed). p.entry.now) placed sorted moved);
      in_order = in_order_from_sort_by (λ (p : Placed). p.entry.now) (stands_before columns) (order_chain columns) sorted c.sort_unstable_by.ensures.sorted (λ a r q k. search rules);
      at_place = All-permutation (λ (p : Placed). (p.place < length ranked) × (get_or ranked p.place p.entry.now ≡ p.entry.now)) placed sorted moved c.loop-place.invariant.1;
      all =
          λ place inside.
          (same_if_permuted (places placed) (places sorted) (IsPermutation-map (λ (p : Placed). p.place) placed sorted moved)).there place
          (subst (λ n. Among n (places placed)) (c.loop-place.invariant.2 place (omega arith))
          (among_place (places placed) place 0 (omega (arith, inside, ap length whole, length-map placed (λ (p : Placed). p.entry.now), length-map placed (λ (p : Placed). p.place)))));
    }
