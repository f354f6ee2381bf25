use Rattle.pref_core.proofs.Common.{◌≡◌, ℕ, Option, Some, sym, ap, ap₂, ◌∙◌, subst, arith, ltb-true, ended, slot_of, given, placed_rows}
use Rattle.pref_core.proofs.Common.{change_of, changes_of, op_of}
use Rattle.indexmap.specs.IndexMap.{spare}
use Rattle.pref_core.proofs.ChangesLaws.{among_first}
use Rattle.pref_core.proofs.IndexLaws.{AreThere, adds_one, sets_one, removes_one, ended_there, rest_there}
use Rattle.pref_core.proofs.index.place_rows.Goals.{in-Add-Some, in-Set-Some, in-Remove-default}
use Rattle.pref_core.proofs.index.place_rows.Goals as goal

pub loop-at-init : goal.loop-at-init
loop-at-init c =
    let now = c.args.contents.now in
    let op = op_of c.args.op.now in
    let index = c.args.map.now.entries in
    let same : c.contents.inside.next_id ≡ now.next_id = ap (λ s. s.next_id) c.contents.view_is in
    record {
      rest = record {
        gives = λ id. ap₂ (λ n l. given (placed_rows n (changes_of op.call) l) id (slot_of index id)) same c.as_slice-slots.ensures.same;
        olds = subst (λ n. AreThere now n (ended op.call) index) (sym same) (ended_there now c.requires.kept.stands.within op index c.requires.next c.requires.succeeds c.requires.index);
        fits = c.requires.room;
      };
      used = omega arith;
      few = omega arith;
    }

pub move_slot-requires-clause-there : goal.move_slot-requires-clause-there
move_slot-requires-clause-there c =
    (rest_there c.args.contents.now c.loop-at.next_id c.loop-at.map.entries (changes_of c.args.op.now.call.now) c.loop-at.at c.in-Set-Some.id c.in-Set-Some.field-1-0.now c.in-Set-Some.ensures c.loop-at.invariant.rest.olds).there
    c.in-Set-Some.id (among_first c.in-Set-Some.id _)

pub move_slot-requires-clause-index : goal.move_slot-requires-clause-index
move_slot-requires-clause-index c =
    (rest_there c.args.contents.now c.loop-at.next_id c.loop-at.map.entries (changes_of c.args.op.now.call.now) c.loop-at.at c.in-Set-Some.id c.in-Set-Some.field-1-0.now c.in-Set-Some.ensures c.loop-at.invariant.rest.olds).placed
    c.in-Set-Some.id (among_first c.in-Set-Some.id _)

pub loop-at-preserved : goal.loop-at-preserved
loop-at-preserved c =
    let now = c.args.contents.now in
    let changes = changes_of c.args.op.now.call.now in
    let slots = c.as_slice-slots.result.now in
    let next = c.loop-at.next_id in
    let used = c.loop-at.used in
    let map = c.loop-at.map in
    let all : ℕ → Option ℕ = λ id. given (placed_rows now.next_id changes c.args.op.now.slots) id (slot_of c.args.map.now.entries id) in
    let before = c.loop-at.invariant in
    let used_before = before.used in
    let few = before.few in
    elim c.match-change.branch [
      | in-Add-Some w ↦
          let slot = w.in-Add-Some.slot.now in
          record {
            rest = rw (w.used-is, w.next_id-is, w.map-is) (adds_one now next c.loop-at.at used changes slots map.entries w.put_slot.new.map.entries (spare map) (spare w.put_slot.new.map) all slot w.in-Add-Some.field-0-0.now
                (c.change.ensures ∙ ap (λ x. Some (change_of x)) w.in-Add-Some.is-0) w.in-Add-Some.ensures'.lookup.1 (ltb-true _ _ (sym w.in-Add-Some.ensures'.lookup.0)) w.put_slot.ensures.room before.rest w.put_slot.ensures.put);
            used = omega (arith, w.used-is);
            few = omega (arith, w.next_id-is);
          }
      | in-Set-Some w ↦
          let slot = w.in-Set-Some.slot.now in
          record {
            rest = rw (w.used-is, w.next_id-is, w.map-is) (sets_one now next c.loop-at.at used changes slots map.entries w.move_slot.new.map.entries (spare map) (spare w.move_slot.new.map) all w.in-Set-Some.id slot w.in-Set-Some.field-1-0.now
                (c.change.ensures ∙ ap (λ x. Some (change_of x)) w.in-Set-Some.is-0) w.in-Set-Some.ensures'.lookup.1 (ltb-true _ _ (sym w.in-Set-Some.ensures'.lookup.0)) w.move_slot.ensures.room before.rest w.move_slot.ensures.moved);
            used = omega (arith, w.used-is);
            few = omega (arith, w.next_id-is);
          }
      | in-Remove-default w ↦
          record {
            rest = rw (w.used-is, w.next_id-is, w.map-is) (removes_one now next c.loop-at.at used changes slots map.entries w.take_slot.new.map.entries (spare map) (spare w.take_slot.new.map) all w.in-Remove-default.id
                (c.change.ensures ∙ ap (λ x. Some (change_of x)) w.in-Remove-default.is-0) w.take_slot.ensures.room before.rest w.take_slot.ensures.taken);
            used = omega (arith, w.used-is);
            few = omega (arith, w.next_id-is);
          }
    ]
