use Rattle.pref_term.proofs.Common.{sym, ◌∙◌}
use Rattle.pref_term.proofs.ExtensionLaws.{same_in_one}
use Rattle.pref_term.proofs.keys.is_ranked.Goals as goal

pub returns-then-ranks_as : goal.returns-then-ranks_as
returns-then-ranks_as c reported a b same =
    let before = c.before-item.result in
    sym (c.ranks_as.ensures c.if-ranks_as.true a b)
    ∙ same_in_one c.args.keys.now before a b (c.loop-before.before-index, c.loop-before-test.true, sym c.before-item.is) same
