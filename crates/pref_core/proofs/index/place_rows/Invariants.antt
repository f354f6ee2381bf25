use Rattle.pref_core.proofs.Common.{◌+◌, ◌≤◌, drop, slot_of, given, placed_rows, changes_of}
use Rattle.pref_core.proofs.IndexLaws.{PlacesRest}
use Rattle.indexmap.specs.IndexMap.{spare}
use Rattle.pref_core.proofs.index.place_rows.Given as goal

abbrev pub invariant-loop-at : goal.invariant-loop-at
invariant-loop-at l = record {
  rest : PlacesRest l.contents l.next_id (drop l.at (changes_of l.op.call.now)) (drop l.used l.slots) l.map.entries (spare l.map) (λ id. given (placed_rows l.contents.next_id (changes_of l.op.call.now) l.op.slots) id (slot_of l.initial.map.entries id));
  used : l.used ≤ l.at;
  few : l.next_id ≤ l.contents.next_id + l.at;
}
