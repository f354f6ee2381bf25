use Rattle.pref_core.proofs.Common.{ℕ, slot_of}
use Rattle.pref_core.proofs.IndexedRows.{IsPlaceUpTo}
use Rattle.pref_core.proofs.store.stamped_slots.StampedSlots.index.Given as goal

abbrev pub invariant-loop-place : goal.invariant-loop-place
invariant-loop-place l = (id : ℕ) → IsPlaceUpTo l.self-inside.stamp id l.slots l.place (slot_of l.index id)
