use Rattle.pref_sky.proofs.Common.{[], ◌∙◌, IfOk-weaker, entry_order}
use Rattle.pref_sky.proofs.partial.levels.Goals as goal

-- what was empty holds the levels of what was added
pub returns : goal.returns
returns g c =
    let added = c.in_ok-add.ensures.ok [] c.requires.ids (c.empty-partial.ensures.levels (entry_order (g.D.Dominance.order c.args.dominance.now)) c.args.cut) in
    IfOk-weaker c.ranked.result _ _ (λ ranked is. is ∙ added) c.ranked.ensures
