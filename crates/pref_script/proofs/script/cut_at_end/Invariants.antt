use Rattle.pref_script.proofs.Common.{length}
use Rattle.pref_script.proofs.ScriptLaws.{Seen}
use Rattle.pref_script.proofs.script.cut_at_end.Given as goal

abbrev pub invariant-loop-left : goal.invariant-loop-left
invariant-loop-left l = Seen l.rest l.left l.count

abbrev pub decreases-loop-left : goal.decreases-loop-left
decreases-loop-left l = length l.left
