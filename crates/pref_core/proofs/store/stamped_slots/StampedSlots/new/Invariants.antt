use Rattle.pref_core.proofs.Common.{◌≡◌, ◌++◌, drop, opening_slots}
use Rattle.pref_core.proofs.store.stamped_slots.StampedSlots.new.Given as goal

abbrev pub invariant-loop-row : goal.invariant-loop-row
invariant-loop-row l = record {
  made : l.made ≡ l.row-index;
  rest : l.slots.items ++ opening_slots l.made (drop l.row-index l.rows) ≡ opening_slots 0 l.rows;
}
