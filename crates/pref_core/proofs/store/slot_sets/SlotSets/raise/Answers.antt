use Rattle.pref_core.proofs.Common.{refl, ◌-◌, ◌∙◌, suc, ap, map, get_or, slice_get, set, numbered, use_at}
use Rattle.pref_core.proofs.SlotSetsLaws.{arranged_same, raises}
use Rattle.pref_core.proofs.store.slot_sets.SlotSets.raise.Goals as goal

pub invariant_of-self : goal.invariant_of-self
invariant_of-self c =
    let step = raises c.self.inside.order.items c.self.inside.positions.items c.self.inside.bounds c.args.place c.self.invariant c.args.from c.requires.few (ap (λ z. slice_get z c.args.place) c.self.view_is ∙ c.requires.there) in
    arranged_same _ _ _ _ _ _ c.move_to.ensures.order c.move_to.ensures.positions refl step.arranged

pub returns : goal.returns
returns c =
    let step = raises c.self.inside.order.items c.self.inside.positions.items c.self.inside.bounds c.args.place c.self.invariant c.args.from c.requires.few (ap (λ z. slice_get z c.args.place) c.self.view_is ∙ c.requires.there) in
    ap (map (use_at (set c.self.inside.bounds c.args.from (get_or c.self.inside.bounds c.args.from 0 - 1)))) c.move_to.ensures.positions ∙ step.same ∙ ap (λ z. set z c.args.place (numbered (suc c.args.from))) c.self.view_is
