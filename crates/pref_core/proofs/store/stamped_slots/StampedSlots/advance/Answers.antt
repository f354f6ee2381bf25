use Rattle.pref_core.proofs.Common.{ap, ◌+◌}
use Rattle.pref_core.specs.StampedSlots.{StampedSlots}
use Rattle.pref_core.proofs.store.stamped_slots.StampedSlots.advance.Goals as goal

-- for an edit that must fail: an answer fails at once, a search twice at its limits
pub returns : goal.returns
returns c = ap (λ (s : StampedSlots). record s { stamp = s.stamp + 1 }) c.self.view_is
