use Rattle.pref_core.proofs.Common.{refl, sym, ap, subst, ◌∙◌, row_at, Contents, IsTracked, StampedSlots}
use Rattle.pref_core.proofs.FilledLaws.{replace_tracked}
use Rattle.pref_core.proofs.SlotUseLaws.{row_version}
use Rattle.pref_core.proofs.store.contents.Contents.replace.Goals as goal

pub invariant_of-self : goal.invariant_of-self
invariant_of-self c =
    let now = c.self.inside in
    let contents : Contents = record { slots = now.slots.slots; stamp = now.slots.stamp; next_id = now.next_id; callers = now.callers.items } in
    let shows = ap (λ (s : Contents). row_at s.stamp c.args.id s.slots c.args.place) c.self.view_is ∙ c.requires in
    let found = row_version now.slots.stamp c.args.id now.slots.slots c.args.place shows in
    subst (λ (s : StampedSlots). IsTracked (record { slots = s.slots; stamp = s.stamp; next_id = now.next_id; callers = now.callers.items }) now.places now.links) (sym c.begin.ensures)
    (replace_tracked contents now.places now.links c.args.id c.args.place found.0 c.self.invariant shows found.1 (record { id = c.args.id; row = c.args.row.now }) _ refl refl)
