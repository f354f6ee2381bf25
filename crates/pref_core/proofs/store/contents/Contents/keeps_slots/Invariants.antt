use Rattle.pref_core.proofs.Common.{drop, KeepSlots, changes_of}
use Rattle.pref_core.proofs.store.contents.Contents.keeps_slots.Given as goal

abbrev pub invariant-loop-at : goal.invariant-loop-at
invariant-loop-at l = KeepSlots l.self.stamp l.self.slots (drop l.at (changes_of l.op.call.now)) (drop l.at l.slots) → KeepSlots l.self.stamp l.self.slots (changes_of l.op.call.now) l.op.slots
