use Rattle.pref_core.proofs.Common.{◌+◌, ◌≤◌, drop, begun_by, changes_of}
use Rattle.pref_core.proofs.ChosenSlots.{ChosenUpTo}
use Rattle.pref_core.proofs.store.contents.Contents.places_for.Given as goal

abbrev pub invariant-loop-at : goal.invariant-loop-at
invariant-loop-at l = record {
  chosen : ChosenUpTo l.self l.call (begun_by l.next_id (drop l.at (changes_of l.call))) l.chosen;
  few : l.next_id ≤ l.self.next_id + l.at;
}
