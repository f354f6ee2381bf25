use Rattle.pref_core.proofs.Common.{◌+◌, ◌-◌, length, ap, arith, common_steps, Contents, ended}
use Rattle.pref_core.proofs.ChosenSlots.{size_is, freed_less}
use Rattle.pref_core.proofs.store.contents.Contents.size_after.Goals as goal

pub returns : goal.returns
returns c =
    let now = c.args.self.now in
    let call = c.args.call.now in
    let freed = c.free.result + length c.as_slice.result.now in
    let same = ap length c.as_slice.ensures.same in
    let less = freed_less now (ended call) c.args.freed.now c.requires in
    let long = ap (λ (s : Contents). length s.slots) c.self.view_is in
    size_is now call c.args.freed.now (c.capacity.result + c.begun.result - freed) freed c.begun.result
    c.requires (c.begun.ensures.count now.next_id) (omega (arith, c.free.ensures.value, same)) (grind (arith, common_steps, c.free.ensures.value, c.capacity.ensures.value, same, less, long))
