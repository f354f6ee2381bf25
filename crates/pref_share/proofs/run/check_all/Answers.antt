use Rattle.pref_share.proofs.Common.{◌∙◌}
use Rattle.pref_share.proofs.run.check_all.Goals as goal

pub returns-clause-within : goal.returns-clause-within
returns-clause-within g c = rw (c.whole.ensures.same ∙ c.check_each.ensures.same.0) c.check_each.ensures.within
