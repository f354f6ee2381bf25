use Rattle.std.proofs.Common.{◌≡◌, ◌+◌, ◌≤◌, drop}
use Rattle.prefq_c.specs.Openings.{line_end_from}
use Rattle.prefq_c.proofs.table.line_end.Given as goal

abbrev pub invariant-loop-byte : goal.invariant-loop-byte
invariant-loop-byte l = (l.col ≤ l.byte-index + 1) × (line_end_from l.col (drop l.byte-index l.header) ≡ line_end_from 1 l.header)
