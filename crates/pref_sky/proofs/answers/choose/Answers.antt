use Rattle.pref_sky.proofs.Common.{◌≡◌, ◌<◌, ◌-◌, All, All-more, Ranked, arith, cases_eq, count_before, get_or, get_or-map, get_or-set_other, get_or-set_same, get_or_default, in_same_group, length, length-map, length-set, nat_lt, cond, set, sym, subst, take, take_all, ◌∙◌, ℕ, List, []}
use Rattle.std.proofs.lemmas.List.{ext_get_or}
use Rattle.pref_sky.proofs.GroupedLaws.{counted_in_group, read_at}
use Rattle.pref_sky.proofs.ListLaws.{all_among, from_map}
use Rattle.pref_sky.specs.Grouped.{AreGrouped, IsCounted, entries, entry_at}
use Rattle.pref_sky.specs.declared.grouped.Placed.{Placed}
use Rattle.pref_sky.proofs.answers.choose.Invariants.{choice}
use Rattle.pref_sky.proofs.answers.choose.Goals as goal

-- the right value is written at a place
written : (right : ℕ → ℕ) (chosen : List ℕ) (here place value : ℕ) → here < length chosen → value ≡ right here → get_or chosen place 0 ≡ right place → get_or (set chosen here value) place 0 ≡ right place
written right chosen here place value inside is before = grind (arith, cases_eq place here, get_or-set_same chosen here value 0, get_or-set_other chosen here place value 0)

pub loop-at-preserved : goal.loop-at-preserved
loop-at-preserved c =
    let columns = c.args.columns.now in
    let ranked = c.args.ranked.now in
    let placed = c.as_slice-placed.result.now in
    let at = c.loop-at.at in
    let chosen = c.loop-at.chosen.items in
    let here = c.index-placed-at.result in
    let front = c.in_front-front.result in
    let value = c.from.result in
    let grouped : AreGrouped columns ranked placed = subst (AreGrouped columns ranked) (sym c.as_slice-placed.ensures.value) (c.in_ok-grouped.ensures {u = tt}) in
    let counted : IsCounted columns (entries placed) (entry_at placed at) front = c.in_front-front.ensures.counted grouped.in_order c.loop-at.invariant.counted in
    let there : (here.place < length ranked) × (get_or ranked here.place here.entry.now ≡ here.entry.now) = subst (λ (p : Placed). (p.place < length ranked) × (get_or ranked p.place p.entry.now ≡ p.entry.now)) (sym c.index-placed-at.is) (grouped.at_place at here (omega arith)) in
    let none : Ranked = record { level = 0; id = 0; row = [] } in
    let read : get_or ranked here.place none ≡ entry_at placed at = get_or_default ranked here.place none here.entry.now there.0 ∙ (there.1 ∙ sym (read_at placed at here (omega arith) c.index-placed-at.is)) in
    let count : front.level - front.group ≡ count_before (in_same_group columns) ranked (entry_at placed at) = omega (arith, counted.group, counted.level, counted_in_group columns ranked (entries placed) grouped.moved (entry_at placed at)) in
    let is : value ≡ choice columns c.args.k ranked here.place = grind (arith, c.from.ensures, count, read) in
    let inside : here.place < length chosen = omega (arith, there.0, c.loop-at.invariant.long) in
    record {
      long = omega (arith, length-set chosen here.place value);
      within = (omega arith, omega arith);
      counted = λ some. subst (λ n. IsCounted columns (entries placed) (entry_at placed n) front) (omega arith) counted;
      decided =
          All-more (λ (p : Placed). get_or (set chosen here.place value) p.place 0 ≡ choice columns c.args.k ranked p.place) placed at here (omega arith)
          (λ n d front. written (choice columns c.args.k ranked) chosen here.place (get_or (take at placed) n d).place value inside is (c.loop-at.invariant.decided n d front))
          (subst (λ (p : Placed). get_or (set chosen here.place value) p.place 0 ≡ choice columns c.args.k ranked p.place) c.index-placed-at.is (get_or-set_same chosen here.place value 0 inside ∙ is));
    }

pub returns : goal.returns
returns c =
    let columns = c.args.columns.now in
    let ranked = c.args.ranked.now in
    let placed = c.as_slice-placed.result.now in
    let chosen = c.loop-at.chosen.items in
    let right : ℕ → ℕ = choice columns c.args.k ranked in
    let few : Ranked → ℕ = λ r. cond (nat_lt (count_before (in_same_group columns) ranked r) c.args.k) 1 0 in
    let grouped : AreGrouped columns ranked placed = subst (AreGrouped columns ranked) (sym c.as_slice-placed.ensures.value) (c.in_ok-grouped.ensures {u = tt}) in
    let decided : All (λ (p : Placed). get_or chosen p.place 0 ≡ right p.place) placed = subst (All (λ (p : Placed). get_or chosen p.place 0 ≡ right p.place)) (take_all c.loop-at.at placed (omega arith)) c.loop-at.invariant.decided in
    ext_get_or 0 chosen _ (omega (arith, c.loop-at.invariant.long, length-map ranked few)) (λ place inside.
    let within : place < length ranked = omega (arith, c.loop-at.invariant.long, inside) in
    let p = from_map (λ (p : Placed). p.place) placed place (grouped.all place within) in
    subst (λ n. get_or chosen n 0 ≡ right n) (sym p.2) (all_among (λ (q : Placed). get_or chosen q.place 0 ≡ right q.place) placed decided p.0 p.1) ∙ sym (get_or-map few ranked place (record { level = 0; id = 0; row = [] }) 0 within))
