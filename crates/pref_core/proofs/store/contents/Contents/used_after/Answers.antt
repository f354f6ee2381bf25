use Rattle.pref_core.proofs.Common.{arith, common_steps, ◌+◌, Some, refl, sym, ap, ◌∙◌, subst, ltb-true, slice_get-get_or, FitsNext, free_at, uses_of, change_of, Add}
use Rattle.pref_core.proofs.store.contents.Contents.used_after.Goals as goal

pub returns-in-Add-Some : goal.returns-in-Add-Some
returns-in-Add-Some c =
    let place = c.in-Add-Some.place.now in
    let slot = slice_get-get_or c.args.slots.now c.args.used place (ltb-true _ _ (sym c.in-Add-Some.ensures.lookup.0)) ∙ ap Some (sym c.in-Add-Some.ensures.lookup.1) in
    let uses = c.self.invariant.listed ∙ ap uses_of c.self.view_is in
    let fits : FitsNext c.args.self.now c.args.slots.now c.args.used (Add c.in-Add-Some.field-0-0.now) (c.args.used + 1) =
    (place, slot, ap (λ z. free_at z place) (sym uses) ∙ sym c.is_free.ensures ∙ c.if-is_free.true, sym c.is_listed.ensures ∙ c.if-not-is_listed.true, refl) in
    subst (λ change. FitsNext c.args.self.now c.args.slots.now c.args.used (change_of change) (c.args.used + 1)) (sym c.in-Add-Some.is-0) fits

pub returns-in-Set-Some : goal.returns-in-Set-Some
returns-in-Set-Some c = grind (arith, common_steps, slice_get-get_or, ltb-true)
