use Rattle.pref_core.proofs.Common.{◌+◌, length, arith, refl, ap, sym, ◌∙◌, subst, IsKept, AreLinks, StampedSlots, ids_of, length-map, shown}
use Rattle.pref_core.proofs.UsesAfterQuery.{uses_opened}
use Rattle.pref_core.proofs.FilledLaws.{known_ids}
use Rattle.pref_core.proofs.OpeningLaws.{opening_is, opened_kept}
use Rattle.pref_core.proofs.store.contents.Contents.new.Goals as goal

pub invariant_of-result : goal.invariant_of-result
invariant_of-result c =
    let capacity = c.capacity-capacity.result in
    let rows = c.args.rows.now in
    let slots = c.in_ok-slots.slots in
    let opened = ap (λ (s : StampedSlots). s.slots) c.in_ok-slots.ensures in
    let stamp = ap (λ (s : StampedSlots). s.stamp) c.in_ok-slots.ensures in
    let kept : IsKept (record { slots = slots.slots; stamp = slots.stamp; next_id = length rows + 1; callers = c.in_ok-callers.callers.items })
    = opened_kept c.clients.result capacity rows _ (omega arith) c.capacity-capacity.ensures.range.1 c.clients.ensures.range.1 opened stamp refl (c.in_ok-callers.ensures.items_if_clones_equal (λ y e. e)) in
    let ids = opening_is capacity slots.stamp rows slots.slots (omega arith) stamp opened in
    record {
      seats = kept.bounded.callers;
      within = kept.stands.within;
      listed = uses_opened c.in_ok-callers.callers.items capacity rows slots.slots c.in_ok-places.places opened c.in_ok-places.ensures;
      linked =
          subst (λ n. AreLinks n (ids_of slots.stamp slots.slots) c.in_ok-links.links) (sym ids.size ∙ length-map slots.slots (shown slots.stamp))
          (c.in_ok-links.ensures (ids_of slots.stamp slots.slots) ids);
      ids = known_ids _ kept.state kept.bounded kept.stands;
    }

pub returns-clause-kept : goal.returns-clause-kept
returns-clause-kept c =
    opened_kept c.clients.result c.capacity-capacity.result c.args.rows.now _ (omega arith) c.capacity-capacity.ensures.range.1 c.clients.ensures.range.1
    (ap (λ (s : StampedSlots). s.slots) c.in_ok-slots.ensures) (ap (λ (s : StampedSlots). s.stamp) c.in_ok-slots.ensures) refl (c.in_ok-callers.ensures.items_if_clones_equal (λ y e. e))
