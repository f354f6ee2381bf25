use Rattle.std.proofs.Common.{◌≡◌, length, map, take}
use Rattle.prefq_c.specs.Commits.{change_of}
use Rattle.prefq_c.proofs.changes.commit_of.Given as goal

abbrev pub invariant-loop-place : goal.invariant-loop-place
invariant-loop-place l = (length l.changes ≡ 8) × (take l.place l.changes ≡ map (change_of (length l.schema)) (take l.place l.pieces))
