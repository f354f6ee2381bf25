use Rattle.pref_core.proofs.Common.{◌≡◌, ◌-◌, set, numbered}
use Rattle.pref_core.proofs.store.slot_sets.SlotSets.put.Given as goal

abbrev pub invariant-loop-step : goal.invariant-loop-step
invariant-loop-step l = l.self ≡ set l.initial.self l.place (numbered (l.first - l.step))

abbrev pub invariant-loop-number : goal.invariant-loop-number
invariant-loop-number l = l.self ≡ set l.initial.self l.place (numbered l.number)
