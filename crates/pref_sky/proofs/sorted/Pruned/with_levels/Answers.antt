use Rattle.pref_sky.proofs.Common.{◌∙◌, ◌++◌, ap, get_or, map, subst, sym, AreSorted, level_of, own_order}
use Rattle.pref_sky.proofs.HeldLaws.{held_among}
use Rattle.pref_sky.proofs.ListLaws.{in_left, same_if_permuted}
use Rattle.pref_sky.specs.Held.{AreHeld, AreTakenOver}
use Rattle.pref_sky.proofs.sorted.Pruned.with_levels.Goals.{After-deref-3}
use Rattle.pref_sky.proofs.sorted.Pruned.with_levels.Goals as goal

module _ (c : After-deref-3) where
  merged : AreSorted c.args.self.now.order (c.args.self.now.entries.items ++ c.args.recent.now) c.in_ok-entries.field-0.entries.items
      × AreTakenOver (level_of (own_order c.args.self.now.order) c.args.self.now.entries.items c.args.self.now.order.cut) c.args.self.now.entries.items c.in_ok-entries.field-0.entries.items c.in_ok-entries.field-0.held.items
  merged =
      let fn = c.args.self.now in
      let merged = c.in_ok-entries.field-0 in
      let level = level_of (own_order fn.order) fn.entries.items fn.order.cut in
      subst (λ l. AreSorted fn.order (l ++ c.args.recent.now) merged.entries.items × AreTakenOver level l merged.entries.items merged.held.items) c.deref.ensures.value
      (c.in_ok-entries.ensures {u = tt} level (c.deref-2.ensures.value ∙ (fn.leveled ∙ ap (map level) (sym c.deref.ensures.value))))

pub of-requires-clause-held : goal.of-requires-clause-held
of-requires-clause-held c =
    let fn = c.args.self.now in
    let recent = c.args.recent.now in
    let all = c.in_ok-entries.field-0.entries.items in
    let found = c.in_ok-entries.field-0.held.items in
    let is = merged c in
    subst (AreHeld (own_order fn.order) fn.order.cut (λ p. get_or found p 0)) (sym c.deref-3.ensures.value)
    (held_among (own_order fn.order) fn.order.cut fn.entries.items all found is.1 (λ x m. (same_if_permuted (fn.entries.items ++ recent) all is.0.moved).there x (in_left fn.entries.items recent x m)))

pub returns : goal.returns
returns c =
    let fn = c.args.self.now in
    record {
      moved = (merged ((goal.at.returns c).After-deref-3)).0.moved;
      level = c.in_ok-levels.ensures {u = tt} ∙ ap (λ l. map (level_of (own_order fn.order) l fn.order.cut) l) c.deref-4.ensures.value;
    }
