use Rattle.pref_core.proofs.Common.{◌+◌, ◌≤◌, drop, begun_by, filled, stamps, changes_of, begun}
use Rattle.pref_core.proofs.FilledLaws.{BegunUpTo}
use Rattle.pref_core.proofs.store.contents.Contents.begin_rows.Given as goal

abbrev pub invariant-loop-at : goal.invariant-loop-at
invariant-loop-at l = record {
  begun : BegunUpTo l.initial.self l.self (drop l.used l.slots) (begun_by l.next_id (drop l.at (changes_of l.call))) (filled (stamps l.initial.self) l.initial.self.stamp l.slots (begun l.first l.call) l.initial.self.slots);
  few : l.next_id ≤ l.first + l.at;
  used : l.used ≤ l.at;
}
