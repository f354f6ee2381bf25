use Rattle.pref_core.proofs.Common.{◌≡◌, ◌+◌, ◌<◌, map, get_or, length, set, ap, sym, ◌∙◌, subst, arith, length-map, get_or-map, slice_get_within, Live, Ended, MayBecome, use_of}
use Rattle.std.proofs.lemmas.List.Elements.{length_all_zip}
use Rattle.pref_core.proofs.UsesAfterQuery.{IsSweeping, sweep_goes, swept_all}
use Rattle.pref_core.proofs.store.slot_sets.SlotSets.sweep.Goals as goal

pub loop-turn-preserved : goal.loop-turn-preserved
loop-turn-preserved c =
    let after = map (use_of c.args.callers.now) c.args.slots.now in
    let inside = slice_get_within c.loop-turn.self c.in-Some.place (Ended c.args.keeper) c.in-Some.ensures.found in
    let long = length_all_zip (MayBecome c.args.keeper) _ _ c.loop-turn.invariant.may in
    let same = length-map c.args.slots.now (use_of c.args.callers.now) in
    let within : c.in-Some.place < length c.args.slots.now = omega arith in
    let slot_use : get_or after c.in-Some.place Live ≡ c.use_of-next_use.result
    = get_or-map (use_of c.args.callers.now) c.args.slots.now c.in-Some.place c.index-slots-place.result Live within ∙ ap (use_of c.args.callers.now) (sym c.index-slots-place.is) ∙ sym c.use_of-next_use.ensures in
    subst (λ uses. IsSweeping c.args.keeper (c.loop-turn._turn + 1) uses after) (sym (c.put.ensures ∙ ap (set c.loop-turn.self c.in-Some.place) (sym slot_use)))
    (sweep_goes c.args.keeper c.loop-turn._turn c.in-Some.place c.loop-turn.self after c.loop-turn.invariant c.in-Some.ensures.found)

pub returns : goal.returns
returns c =
    let same = length-map c.args.slots.now (use_of c.args.callers.now) in
    let past = c.loop-turn-test.false in
    swept_all c.args.keeper c.loop-turn._turn c.loop-turn.self _ c.loop-turn.invariant (omega arith)
