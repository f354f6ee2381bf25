use Rattle.pref_core.proofs.Common.{◌≡◌, ◌+◌, ◌≤◌, drop, added_by}
use Rattle.pref_core.proofs.changes.added_by.Given as goal

abbrev pub invariant-loop-change : goal.invariant-loop-change
invariant-loop-change l = record {
  total : l.added + added_by (drop l.change-index l.changes) ≡ added_by l.changes;
  few : l.added ≤ l.change-index;
}
