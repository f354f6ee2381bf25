use Rattle.pref_core.proofs.Common.{◌≡◌, drop, Some, kept_from}
use Rattle.pref_core.proofs.store.needs.kept_by.Given as goal

abbrev pub invariant-loop-keeper : goal.invariant-loop-keeper
invariant-loop-keeper l = kept_from l.keeper (drop l.keeper l.callers) (Some l.version) ≡ kept_from 0 l.callers (Some l.version)
