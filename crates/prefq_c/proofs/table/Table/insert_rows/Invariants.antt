use Rattle.std.proofs.Common.{◌≡◌, ◌-◌}
use Rattle.prefq_c.specs.Acts.{InsertsRow, first_id, width_of}
use Rattle.prefq_c.specs.Openings.{HaveRows, rows_in}
use Rattle.prefq_c.proofs.EachLaws.{GoesOn}
use Rattle.prefq_c.proofs.table.Table.insert_rows.Given as goal

abbrev pub invariant-loop-row : goal.invariant-loop-row
invariant-loop-row l = HaveRows (width_of l.fn.self) (l.count - l._row) l.left × (width_of l.self ≡ width_of l.fn.self)
    × GoesOn InsertsRow first_id 0 (rows_in (width_of l.fn.self) l.count l.numbers) l.fn.self l.first (rows_in (width_of l.fn.self) (l.count - l._row) l.left) l.self
