use Rattle.pref_core.proofs.Common.{◌<◌, ◌+◌, ◌^◌, ℕ, length, refl, subst, sym, ap₂, ◌∙◌, inl, arith, slice_index, ids_of, home_of, id_at}
use Rattle.pref_core.proofs.IdChainsLaws.{way_on, within_at}
use Rattle.pref_core.proofs.store.id_chains.before.Goals as goal

pub along-init : goal.along-init
along-init c = record {
  way = record { bound = 2 ^ 64; is = inl (ap₂ (λ (capacity home : ℕ). capacity + home) c.capacity.ensures.value c.home_of.ensures.home, refl); above = c.ranges.id.fits };
  inside = omega (arith, c.requires.long, c.home_of.ensures.inside, c.capacity.ensures.value);
}

pub along-smaller : goal.along-smaller
along-smaller c =
    let slots = c.args.slots.now in
    (way_on (2 ^ 64) (length slots.slots) (home_of (length slots.slots)) (id_at (ids_of slots.stamp slots.slots)) (slice_index c.args.next.now) c.args.id c.along.node c.requires.linked
    (subst (λ home. home < length slots.slots) c.home_of.ensures.home c.home_of.ensures.inside) c.along.invariant.way (sym c.is_above.ensures ∙ c.along-test.true)
    (within_at slots.stamp slots.slots)).2

pub along-preserved : goal.along-preserved
along-preserved c =
    let slots = c.args.slots.now in
    let step = way_on (2 ^ 64) (length slots.slots) (home_of (length slots.slots)) (id_at (ids_of slots.stamp slots.slots)) (slice_index c.args.next.now) c.args.id c.along.node c.requires.linked
    (subst (λ home. home < length slots.slots) c.home_of.ensures.home c.home_of.ensures.inside) c.along.invariant.way (sym c.is_above.ensures ∙ c.along-test.true)
    (within_at slots.stamp slots.slots) in
    record { way = step.0; inside = omega (arith, c.requires.long, step.1) }
