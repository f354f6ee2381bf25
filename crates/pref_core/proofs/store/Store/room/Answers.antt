use Rattle.pref_core.proofs.Common.{◌≡◌, ◌∙◌, length, ap, arith, count_by, needed, Contents, used, is_free_use, uses_of}
use Rattle.pref_core.proofs.NeededCounts.{length-needed}
use Rattle.pref_core.proofs.SlotUseLaws.{needed_uses}
use Rattle.pref_core.proofs.store.Store.room.Goals as goal

pub returns : goal.returns
returns c state h =
    let now = c.args.self.now in
    let free : c.free.result ≡ count_by is_free_use (uses_of now) = c.free.ensures.value ∙ ap (λ (s : Contents). count_by is_free_use (uses_of s)) c.self.view_is in
    let size : length (needed state) ≡ used now = length-needed now state h in
    let all = needed_uses now.next_id now.stamp now.callers now.slots h.within in
    omega arith
