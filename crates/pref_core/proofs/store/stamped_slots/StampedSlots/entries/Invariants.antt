use Rattle.pref_core.proofs.Common.{◌≡◌, ◌++◌, ◌≤◌, drop, length, vec_len, vec_capacity, entries, visible}
use Rattle.pref_core.proofs.store.stamped_slots.StampedSlots.entries.Given as goal

abbrev pub invariant-loop-slot : goal.invariant-loop-slot
invariant-loop-slot l = (l.found.items ++ entries (visible l.stamp (drop l.slot-index l.slots)) ≡ entries (visible l.stamp l.slots)) × (vec_len l.found ≤ l.slot-index) × (length l.slots ≤ vec_capacity l.found)
