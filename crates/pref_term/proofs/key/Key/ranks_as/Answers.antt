use Rattle.pref_term.proofs.Common.{sym, ◌∙◌}
use Rattle.pref_term.proofs.ExtensionLaws.{same_either_way}
use Rattle.pref_term.proofs.KeyEqual.{scores_Decides}
use Rattle.pref_term.proofs.key.Key.ranks_as.Goals as goal

pub returns-then-self-other : goal.returns-then-self-other
returns-then-self-other c reported a b =
    same_either_way c.args.self.now c.args.other.now a b c.if-self-other.true ((scores_Decides c.args.self.now.score c.args.other.now.score).0 (sym c.eq.ensures ∙ reported))
