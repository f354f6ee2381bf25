use Rattle.pref_core.proofs.Common.{◌≡◌, map, range_with_len, rotated}
use Rattle.pref_core.proofs.store.slot_sets.rotated.Given as goal

abbrev pub invariant-loop-at : goal.invariant-loop-at
invariant-loop-at l = l.numbers.items ≡ map (rotated l.capacity l.first) (range_with_len 0 l.at)
