use Rattle.pref_sky.proofs.Common.{◌++◌, ◌∙◌, ap, subst, sym, map, AreLeveled, IfOk-weaker, level_of, own_order}
use Rattle.pref_sky.proofs.LeveledLaws.{ranked_levels}
use Rattle.pref_sky.specs.Ranking.{AreInRanks, leveled}
use Rattle.pref_sky.proofs.sorted.SortedEntries.ranked.Goals as goal

pub returns : goal.returns
returns c =
    let fn = c.args.self.now.pruned in
    let held = fn.entries.items ++ c.args.self.now.recent.items in
    let all = c.in_ok-entries.field-0.entries.items in
    let levels = c.in_ok-entries.field-0.levels.items in
    let are : AreLeveled fn.order held all levels = subst (λ l. AreLeveled fn.order (fn.entries.items ++ l) all levels) c.deref.ensures.value (c.in_ok-entries.ensures {u = tt}) in
    let level = level_of (own_order fn.order) all fn.order.cut in
    IfOk-weaker c.in_order_of_level.result _ _ (λ ranked listed.
    ranked_levels fn.order held all c.args.self.now.ids are.moved ranked.items (subst (λ l. AreInRanks (leveled level l) ranked.items) c.deref-2.ensures.value listed))
    (c.in_order_of_level.ensures level (c.deref-3.ensures.value ∙ (are.level ∙ ap (map level) (sym c.deref-2.ensures.value))))
