use Rattle.pref_term.proofs.Common.{arith, common_steps}
use Rattle.pref_term.proofs.shown.show_values.Goals as goal

pub loop-value-preserved : goal.loop-value-preserved
loop-value-preserved c = grind (arith, common_steps)
