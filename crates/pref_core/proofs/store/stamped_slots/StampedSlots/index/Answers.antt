use Rattle.pref_core.proofs.Common.{arith, common_steps, ◌+◌, Some, ap, sym, subst, ◌∙◌, slice_get-get_or, slot_of}
use Rattle.pref_core.proofs.IndexedRows.{IsPlaceUpTo, place_at_end, place_past, place_put, row_at-hidden, row_at-empty}
use Rattle.pref_core.proofs.store.stamped_slots.StampedSlots.index.Goals.{in-Some+then-is_visible_at+in_ok-put, in-Some+else-is_visible_at, in_default}
use Rattle.pref_core.proofs.store.stamped_slots.StampedSlots.index.Goals as goal

pub loop-place-preserved : goal.loop-place-preserved
loop-place-preserved c id = elim c.match-slots-place.branch [
  | in-Some+then-is_visible_at+in_ok-put w ↦
      let at = slice_get-get_or c.as_slice-slots.result.now c.loop-place.place _ c.loop-place-test.true ∙ ap Some w.in-Some.is in
      subst (λ index. IsPlaceUpTo c.self.inside.stamp id c.as_slice-slots.result.now (c.loop-place.place + 1) (slot_of index id)) (sym w.index-is)
      (place_put c.self.inside.stamp id c.as_slice-slots.result.now c.loop-place.place w.in-Some.version c.loop-place.index w.put.new.self at (sym w.is_visible_at.ensures ∙ w.if-is_visible_at.true) w.in_ok-put.ensures.put (c.loop-place.invariant id))
  | in-Some+else-is_visible_at w ↦
      let at = slice_get-get_or c.as_slice-slots.result.now c.loop-place.place _ c.loop-place-test.true ∙ ap Some w.in-Some.is in
      subst (λ index. IsPlaceUpTo c.self.inside.stamp id c.as_slice-slots.result.now (c.loop-place.place + 1) (slot_of index id)) (sym w.index-is)
      (place_past c.self.inside.stamp id c.as_slice-slots.result.now c.loop-place.place (slot_of c.loop-place.index id) (row_at-hidden c.self.inside.stamp id c.as_slice-slots.result.now c.loop-place.place w.in-Some.version at (sym w.is_visible_at.ensures ∙ w.if-is_visible_at.false)) (c.loop-place.invariant id))
  | in_default w ↦
      let at = slice_get-get_or c.as_slice-slots.result.now c.loop-place.place _ c.loop-place-test.true ∙ ap Some w.in_default.is in
      subst (λ index. IsPlaceUpTo c.self.inside.stamp id c.as_slice-slots.result.now (c.loop-place.place + 1) (slot_of index id)) (sym w.index-is)
      (place_past c.self.inside.stamp id c.as_slice-slots.result.now c.loop-place.place (slot_of c.loop-place.index id) (row_at-empty c.self.inside.stamp id c.as_slice-slots.result.now c.loop-place.place at) (c.loop-place.invariant id))
]

pub returns : goal.returns
returns c id = grind (arith, common_steps, place_at_end)
