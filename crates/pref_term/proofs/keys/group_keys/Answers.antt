use Rattle.pref_term.proofs.Common.{arith, common_steps}
use Rattle.pref_term.proofs.keys.group_keys.Goals as goal

pub loop-col-preserved : goal.loop-col-preserved
loop-col-preserved c = grind (arith, common_steps)
