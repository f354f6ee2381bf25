use Rattle.pref_core.proofs.Common.{arith, common_steps, take_all, length-append, length-replicate}
use Rattle.pref_core.proofs.OpeningLaws.{length-opening_slots}
use Rattle.pref_core.proofs.store.stamped_slots.StampedSlots.new.Goals as goal

pub invariant_of-result : goal.invariant_of-result
invariant_of-result c = grind (arith, common_steps, length-append, length-opening_slots, length-replicate)

pub returns : goal.returns
returns c = grind (arith, common_steps, take_all, length-opening_slots, c.loop-row.invariant.rest)
