use Rattle.std.proofs.Common.{arith}
use Rattle.prefq_c.proofs.changes.change_of.Goals as goal

pub returns-in-2 : goal.returns-in-2
returns-in-2 c = grind (arith, c.in-2.is, c.row_of-in-2.ensures)
