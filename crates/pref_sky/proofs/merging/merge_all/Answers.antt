use Rattle.pref_sky.proofs.Common.{◌≡◌, ◌++◌, ◌∙◌, All, All-append, All-permutation, IfOk-weaker, IsPermutation, IsPermutation-map, AreSorted, Ranked, ap, arith, at_level, comes_before, entry_of, get_or, get_or-map, inl, inr, length, length-map, map, map-append, not, refl, rules, subst, sym, ◌<◌, []}
use Rattle.std.proofs.lemmas.List.Elements.{All-map}
use Rattle.pref_sky.proofs.ChainLaws.{in_order_from_sort_by, mapped_chain, mapped_in_order}
use Rattle.pref_sky.proofs.ListLaws.{among_place}
use Rattle.pref_sky.proofs.OwnOrders.{before_is_chain}
use Rattle.pref_sky.proofs.RankingLaws.{entries_with_level}
use Rattle.pref_sky.specs.Held.{AreTakenOver, IsTakenOver}
use Rattle.pref_sky.specs.Ranking.{marks, with_level}
use Rattle.pref_sky.specs.declared.merging.Marked.{Marked}
use Rattle.pref_sky.proofs.merging.merge_all.Goals as goal

pub returns : goal.returns
returns c level leveled =
    let order = c.args.order.now in
    let held = c.args.sorted.now in
    let recent = c.args.recent.now in
    let sorted = c.sort_by.new.self.items in
    let all = marks sorted in
    let none : Ranked = record { level = 0; id = 0; row = [] } in
    let IsKept : Ranked → Type 0 = λ r. IsTakenOver level held (entry_of r) r.level in
    let first = c.in_ok-mark.ensures level (λ k inside. ap (λ l. get_or l k 0) leveled ∙ get_or-map level held k (entry_of none) 0 inside) in
    let whole : marks c.mark-2.new.marked.items ≡ map (with_level level) held ++ map (at_level 0) recent =
    c.in_ok-mark-2.ensures (λ e. 0) (λ k inside. refl) ∙ ap (λ l. l ++ map (at_level 0) recent) (first ∙ ap (λ l. marks l ++ map (with_level level) held) (c.in_ok-marked.ensures {u = tt}).items) in
    let moved = subst (λ l. IsPermutation l all) whole (IsPermutation-map (λ (m : Marked). at_level m.level m.entry.now) c.mark-2.new.marked.items sorted c.sort_by.ensures.permutation) in
    let entries : map entry_of (map (with_level level) held ++ map (at_level 0) recent) ≡ held ++ recent =
    map-append entry_of (map (with_level level) held) (map (at_level 0) recent) ∙ (λ i. entries_with_level level held i ++ entries_with_level (λ e. 0) recent i) in
    let kept : All IsKept all =
    All-permutation IsKept _ all moved (All-append IsKept _ _ (All-map IsKept (with_level level) held (λ k d inside. inr (among_place held k d inside, refl))) (All-map IsKept (at_level 0) recent (λ k d inside. inl refl))) in
    let taken : AreTakenOver level held (map entry_of all) (map (λ (r : Ranked). r.level) all) = λ p inside.
    let near : p < length all = omega (arith, inside, length-map all entry_of) in
    rw (get_or-map entry_of all p none (entry_of none) near, get_or-map (λ (r : Ranked). r.level) all p none 0 near) (kept p none near) in
    IfOk-weaker c.copied.result _ _ (λ merged is.
    let copies = is.0 ∙ ap (λ l. map entry_of (marks l)) c.deref.ensures.value in
    let found = is.1 ∙ ap (λ l. map (λ (r : Ranked). r.level) (marks l)) c.deref.ensures.value in (
      subst (AreSorted order (held ++ recent)) (sym copies) (record {
        moved = subst (λ l. IsPermutation l (map entry_of all)) entries (IsPermutation-map entry_of _ all moved);
        in_order =
            mapped_in_order entry_of (λ a b. not (comes_before order b a)) all
            (in_order_from_sort_by (λ (m : Marked). at_level m.level m.entry.now) (λ a b. comes_before order (entry_of a) (entry_of b)) (mapped_chain entry_of (comes_before order) (before_is_chain order)) sorted c.in_ok-sort_by.ensures.sorted (λ a r q k. search rules));
      }),
      subst (λ l. AreTakenOver level held l merged.held.items) (sym copies) (subst (AreTakenOver level held (map entry_of all)) (sym found) taken),
    )) c.copied.ensures
