use Rattle.pref_term.proofs.Common.{arith, common_steps}
use Rattle.pref_term.proofs.keys.is_better_by_keys.Goals as goal

pub loop-key-preserved : goal.loop-key-preserved
loop-key-preserved c = grind (arith, common_steps)
