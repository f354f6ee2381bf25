use Rattle.pref_core.proofs.Common.{arith, common_steps}
use Rattle.pref_core.proofs.store.needs.kept_by.Goals as goal

-- for an edit that must fail: an answer fails at once, a search twice at its limits
pub loop-keeper-preserved : goal.loop-keeper-preserved
loop-keeper-preserved c = grind (arith, common_steps)
