use Rattle.pref_core.proofs.Common.{◌+◌, ◌≤◌, length}
use Rattle.pref_core.proofs.store.contents.Contents.slots_at_once.Given as goal

abbrev pub invariant-loop-at : goal.invariant-loop-at
invariant-loop-at l = record {
  ids : l.next_id ≤ l.self.next_id + l.at;
  few : length l.homes ≤ l.at;
}
