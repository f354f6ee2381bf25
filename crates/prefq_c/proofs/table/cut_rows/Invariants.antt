use Rattle.std.proofs.Common.{◌≡◌, ◌-◌, ◌++◌, length}
use Rattle.prefq_c.specs.Openings.{HaveRows, rows_in}
use Rattle.prefq_c.proofs.table.cut_rows.Given as goal

abbrev pub invariant-loop-row : goal.invariant-loop-row
invariant-loop-row l = HaveRows (length l.schema) (l.count - l._row) l.left × (l.rows.items ++ rows_in (length l.schema) (l.count - l._row) l.left ≡ rows_in (length l.schema) l.count l.numbers)
