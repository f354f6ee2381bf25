use Rattle.pref_script.proofs.Common.{length, option_map, pieces_left}
use Rattle.pref_script.proofs.CommitLaws.{ReadsPieces}
use Rattle.pref_script.proofs.commits.read_commit.Given as goal

abbrev pub invariant-loop-left : goal.invariant-loop-left
invariant-loop-left l = ReadsPieces l.schema l.text (option_map (λ pieces. pieces.now) l.left) l.changes l.count

abbrev pub decreases-loop-left : goal.decreases-loop-left
decreases-loop-left l = length (pieces_left (option_map (λ pieces. pieces.now) l.left))
