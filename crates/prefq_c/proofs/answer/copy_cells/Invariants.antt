use Rattle.std.proofs.Common.{◌≡◌, take, length}
use Rattle.prefq_c.proofs.answer.copy_cells.Given as goal

abbrev pub invariant-loop-col : goal.invariant-loop-col
invariant-loop-col l = (length l.numbers ≡ length l.fn.numbers) × (take l.col l.numbers ≡ take l.col l.row)
