use Rattle.pref_term.proofs.Common.{arith, rules, w64, to_z-of_z}
use Rattle.pref_term.proofs.key.Score.of.Goals as goal

pub returns-in-Sets : goal.returns-in-Sets
returns-in-Sets c = let value = to_z-of_z w64 c.args.value (search rules) in grind (arith, value)
