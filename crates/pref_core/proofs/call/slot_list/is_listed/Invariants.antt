use Rattle.pref_core.proofs.Common.{◌≡◌, drop, among}
use Rattle.pref_core.proofs.call.slot_list.is_listed.Given as goal

abbrev pub invariant-loop-other : goal.invariant-loop-other
invariant-loop-other l = among (drop l.other-index l.slots) l.slot ≡ among l.slots l.slot
