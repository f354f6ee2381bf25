use Rattle.pref_core.proofs.Common.{◌≡◌, drop, Some, is_needed, begins}
use Rattle.pref_core.proofs.store.needs.is_seen.Given as goal

abbrev pub invariant-loop-caller : goal.invariant-loop-caller
invariant-loop-caller l =
    is_needed (begins (drop l.caller-index l.callers)) (Some (record l.version { death = l.death })) ≡ is_needed (begins l.callers) (Some (record l.version { death = l.death }))
