use Rattle.pref_core.proofs.Common.{◌<◌, refl, sym, ap, ◌∙◌, subst, arith, is_free, Contents, IsTracked, StampedSlots, stamps, visible, has}
use Rattle.pref_core.proofs.FilledLaws.{begin_tracked}
use Rattle.pref_core.proofs.store.contents.Contents.begin_row.Goals as goal

pub invariant_of-self : goal.invariant_of-self
invariant_of-self c =
    let now = c.self.inside in
    let contents : Contents = record { slots = now.slots.slots; stamp = now.slots.stamp; next_id = now.next_id; callers = now.callers.items } in
    let free = ap (λ (s : Contents). is_free (stamps s) s.slots c.args.place) c.self.view_is ∙ c.requires.free in
    let absent = ap (λ (s : Contents). has (visible s.stamp s.slots) c.args.id) c.self.view_is ∙ c.requires.absent in
    let low = subst (λ (s : Contents). c.args.id < s.next_id) (sym c.self.view_is) c.requires.low in
    subst (λ (s : StampedSlots). IsTracked (record { slots = s.slots; stamp = s.stamp; next_id = now.next_id; callers = now.callers.items }) c.put.new.self c.add.new.self) (sym c.begin.ensures)
    (begin_tracked contents now.places now.links (record { id = c.args.id; row = c.args.row.now }) c.args.place _ c.put.new.self c.add.new.self c.self.invariant free absent low (omega arith) refl c.put.ensures c.add.ensures)
