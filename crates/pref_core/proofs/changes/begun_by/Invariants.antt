use Rattle.pref_core.proofs.Common.{◌≡◌, ℕ, ◌+◌, ◌≤◌, length, drop, begun_by}
use Rattle.pref_core.proofs.changes.begun_by.Given as goal

abbrev pub invariant-loop-change : goal.invariant-loop-change
invariant-loop-change l = record {
  total : (next_id : ℕ) → l.begun + length (begun_by next_id (drop l.change-index l.changes)) ≡ length (begun_by next_id l.changes);
  few : l.begun ≤ l.change-index;
}
