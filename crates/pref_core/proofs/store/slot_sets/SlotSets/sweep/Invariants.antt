use Rattle.pref_core.proofs.Common.{map, use_of}
use Rattle.pref_core.proofs.UsesAfterQuery.{IsSweeping}
use Rattle.pref_core.proofs.store.slot_sets.SlotSets.sweep.Given as goal

abbrev pub invariant-loop-turn : goal.invariant-loop-turn
invariant-loop-turn l = IsSweeping l.keeper l._turn l.self (map (use_of l.callers) l.slots)
