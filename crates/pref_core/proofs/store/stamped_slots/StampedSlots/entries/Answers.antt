use Rattle.pref_core.proofs.Common.{arith, common_steps}
use Rattle.pref_core.proofs.store.stamped_slots.StampedSlots.entries.Goals as goal

pub returns : goal.returns
returns c = grind (arith, common_steps, c.block-slots.ensures c.args.stamp)
