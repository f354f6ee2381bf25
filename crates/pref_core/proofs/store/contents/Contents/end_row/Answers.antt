use Rattle.pref_core.proofs.Common.{◌≡◌, ◌<◌, [], ◌∷◌, length, length-set, map, get_or, Some, sym, ap, ap₂, ◌∙◌, subst, arith, slice_get, slice_get_within}
use Rattle.pref_core.proofs.Common.{get_or-set_same, Version, IsPlaceOf, IsTracked, StampedSlots, with_slots, close, use_of, Contents}
use Rattle.pref_core.proofs.FilledLaws.{end_none, end_alive, end_slots, end_tracked}
use Rattle.pref_core.proofs.SlotUseLaws.{row_version}
use Rattle.pref_core.proofs.store.contents.Contents.end_row.Goals.{In-Some}
use Rattle.pref_core.proofs.store.contents.Contents.end_row.Goals as goal

-- the version that ends
found : (c : In-Some) → (version : Version) × (slice_get c.self.inside.slots.slots c.in-Some.place ≡ Some (Some version))
found c = let slots = c.self.inside.slots in row_version slots.stamp c.args.id slots.slots c.in-Some.place c.in-Some.ensures.place

inside : (c : In-Some) → c.in-Some.place < length c.self.inside.slots.slots
inside c = slice_get_within c.self.inside.slots.slots c.in-Some.place (Some (found c).0) (found c).1

pub returns-in_default : goal.returns-in_default
returns-in_default c =
    let now = c.self.inside in
    end_none _ now.places now.links c.args.id c.self.invariant (subst (IsPlaceOf now.slots.stamp c.args.id now.slots.slots) c.in_default.is c.take.ensures.place)
    ∙ ap (λ (s : Contents). with_slots (map (close (c.args.id ∷ []) s.stamp) s.slots) s) c.self.view_is

pub bounds-slots-place : goal.bounds-slots-place
bounds-slots-place c =
    let some = (goal.at.bounds-slots-place c).In-Some in
    let room = inside some in
    let same = ap length (c.as_slice-slots.ensures ∙ ap (λ (s : StampedSlots). s.slots) (c.end.ensures (found some).0 (found some).1)) in
    let long = length-set c.self.inside.slots.slots c.in-Some.place (Some (record (found some).0 { death = Some c.self.inside.slots.stamp })) in
    omega arith

pub put-requires-clause-there : goal.put-requires-clause-there
put-requires-clause-there c =
    let now = c.self.inside in
    let some = (goal.at.put-requires-clause-there c).In-Some in
    end_alive _ now.places now.links c.args.id c.in-Some.place (found some).0 c.self.invariant c.in-Some.ensures.place (found some).1

pub invariant_of-self-2 : goal.invariant_of-self-2
invariant_of-self-2 c =
    let now = c.self.inside in
    let contents : Contents = record { slots = now.slots.slots; stamp = now.slots.stamp; next_id = now.next_id; callers = now.callers.items } in
    let some = (goal.at.invariant_of-self-2 c).In-Some in
    let version = (found some).0 in
    let last = Some (record version { death = Some now.slots.stamp }) in
    let returned = c.end.ensures version (found some).1 in
    let slot = c.index-slots-place.is ∙ ap (λ l. get_or l c.in-Some.place c.index-slots-place.result) (c.as_slice-slots.ensures ∙ ap (λ (s : StampedSlots). s.slots) returned) ∙ get_or-set_same now.slots.slots c.in-Some.place last c.index-slots-place.result (inside some) in
    let slot_use = c.use_of-next_use.ensures ∙ ap₂ (λ callers slot. use_of callers slot) c.deref.ensures.value slot in
    subst (λ (s : StampedSlots). IsTracked (record { slots = s.slots; stamp = s.stamp; next_id = now.next_id; callers = now.callers.items }) c.put.new.self c.take.new.self) (sym returned)
    (end_tracked contents now.places now.links c.args.id c.in-Some.place version c.self.invariant c.in-Some.ensures.place (found some).1 c.use_of-next_use.result c.put.new.self c.take.new.self slot_use c.put.ensures c.in-Some.ensures.some)

pub returns : goal.returns
returns c =
    let now = c.self.inside in
    let contents : Contents = record { slots = now.slots.slots; stamp = now.slots.stamp; next_id = now.next_id; callers = now.callers.items } in
    let some = (goal.at.returns c).In-Some in
    ap (λ (s : StampedSlots). record { slots = s.slots; stamp = s.stamp; next_id = now.next_id; callers = now.callers.items }) (c.end.ensures (found some).0 (found some).1)
    ∙ ap (λ l. with_slots l contents) (end_slots contents now.places now.links c.args.id c.in-Some.place (found some).0 c.self.invariant c.in-Some.ensures.place (found some).1)
    ∙ ap (λ (s : Contents). with_slots (map (close (c.args.id ∷ []) s.stamp) s.slots) s) c.self.view_is
