use Rattle.pref_term.proofs.Common.{arith, common_steps}
use Rattle.pref_term.proofs.keys.in_same_group.Goals as goal

pub loop-col-preserved : goal.loop-col-preserved
loop-col-preserved c = grind (arith, common_steps)
