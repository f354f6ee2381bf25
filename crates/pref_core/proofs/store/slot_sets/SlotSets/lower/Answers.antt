use Rattle.pref_core.proofs.Common.{refl, ◌+◌, ◌∙◌, ap, map, get_or, slice_get, set, numbered, use_at}
use Rattle.pref_core.proofs.SlotSetsLaws.{arranged_same, lowers}
use Rattle.pref_core.proofs.store.slot_sets.SlotSets.lower.Goals as goal

pub move_to-requires : goal.move_to-requires
move_to-requires c =
    let step = lowers c.self.inside.order.items c.self.inside.positions.items c.self.inside.bounds c.args.place c.self.invariant c.args.to c.requires.few (ap (λ z. slice_get z c.args.place) c.self.view_is ∙ c.requires.there) in
    record { inverse = c.self.invariant.inverse; place = step.here; to = step.there }

pub invariant_of-self : goal.invariant_of-self
invariant_of-self c =
    let step = lowers c.self.inside.order.items c.self.inside.positions.items c.self.inside.bounds c.args.place c.self.invariant c.args.to c.requires.few (ap (λ z. slice_get z c.args.place) c.self.view_is ∙ c.requires.there) in
    arranged_same _ _ _ _ _ _ c.move_to.ensures.order c.move_to.ensures.positions refl step.arranged

pub returns : goal.returns
returns c =
    let step = lowers c.self.inside.order.items c.self.inside.positions.items c.self.inside.bounds c.args.place c.self.invariant c.args.to c.requires.few (ap (λ z. slice_get z c.args.place) c.self.view_is ∙ c.requires.there) in
    ap (map (use_at (set c.self.inside.bounds c.args.to (get_or c.self.inside.bounds c.args.to 0 + 1)))) c.move_to.ensures.positions ∙ step.same ∙ ap (λ z. set z c.args.place (numbered c.args.to)) c.self.view_is
