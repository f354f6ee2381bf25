use Rattle.std.proofs.Common.{◌≡◌, ◌+◌, drop}
use Rattle.prefq_c.specs.Commits.{no_change_from}
use Rattle.prefq_c.proofs.changes.no_change.Given as goal

abbrev pub invariant-loop-at : goal.invariant-loop-at
invariant-loop-at l = no_change_from (l.at + 1) (drop l.at l.pieces) ≡ no_change_from 1 l.pieces
