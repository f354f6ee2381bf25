use Rattle.pref_term.proofs.Common.{arith, common_steps}
use Rattle.pref_term.proofs.keys.compare_by_keys.Goals as goal

-- for an edit that must fail: an answer fails at once, a search twice at its limits
pub returns-then-worse : goal.returns-then-worse
returns-then-worse c = grind (arith, common_steps)

pub loop-key-preserved : goal.loop-key-preserved
loop-key-preserved c = grind (arith, common_steps)
