use Rattle.pref_table.proofs.Common.{arith}
use Rattle.pref_table.proofs.number.signed_value.Goals as goal

pub returns-then-negative : goal.returns-then-negative
returns-then-negative c = grind (arith)
