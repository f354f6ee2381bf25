use Rattle.pref_script.proofs.Common.{◌-◌, [], vec_len}
use Rattle.pref_script.proofs.PartLaws.{HasGone}
use Rattle.pref_script.proofs.parts.PartTask.next.Given as goal

abbrev pub invariant-loop-self : goal.invariant-loop-self
invariant-loop-self l = HasGone l.initial.self l.self []

abbrev pub decreases-loop-self : goal.decreases-loop-self
decreases-loop-self l = vec_len l.self.commands - l.self.read
