use Rattle.pref_core.proofs.Common.{◌≡◌, ◌+◌, [], ◌∷◌, refl, map, set, Some, sym, ap, ◌∙◌, subst, arith, Entry, row_at, IsTracked, KeepSlots, replaced, Contents, new_version, added, changes_of, op_of}
use Rattle.pref_core.proofs.BoundsLaws.{stamp-small, next_id-small, added-small}
use Rattle.pref_core.proofs.OutcomeLaws.{IsAllowed-from}
use Rattle.pref_core.proofs.ChangesLaws.{formed_apart}
use Rattle.pref_core.proofs.FilledLaws.{begun_commit, commit_fresh, tracked_next}
use Rattle.pref_core.proofs.ReplacedLaws.{commit_kept, commit_replaced}
use Rattle.pref_core.proofs.store.contents.Contents.commit.Goals.{After-added}
use Rattle.pref_core.proofs.store.contents.Contents.commit.Goals as goal
use Rattle.pref_core.proofs.Common.{common_steps, close, visible, with_slots, ended_by, begun_by, change_of, AreFresh}

tracked : (c : After-added) → IsTracked c.args.self.now c.self.inside.places c.self.inside.links
tracked c = subst (λ (s : Contents). IsTracked s c.self.inside.places c.self.inside.links) c.self.view_is c.self.invariant

-- the contents as the commit begins
begins : (c : After-added) → (record { slots = c.advance.new.self.slots; stamp = c.advance.new.self.stamp; next_id = c.self.inside.next_id + c.added.result; callers = c.self.inside.callers.items }) ≡ begun_commit c.args.self.now (added c.args.op.now.call.now)
begins c = grind (arith)

pub advance-requires : goal.advance-requires
advance-requires c = let small = stamp-small _ c.requires.kept.bounded in let same = ap (λ (s : Contents). s.stamp) c.self.view_is in omega (arith, same)

pub overflow_add-self : goal.overflow_add-self
overflow_add-self c = grind (arith, common_steps, next_id-small, added-small, IsAllowed-from)

pub invariant_of-self : goal.invariant_of-self
invariant_of-self c =
    let now = c.self.inside in
    subst (λ (s : Contents). IsTracked s now.places now.links) (sym (begins (goal.at.invariant_of-self c).After-added)) (tracked_next c.args.self.now now.places now.links (added c.args.op.now.call.now) (tracked (goal.at.invariant_of-self c).After-added))

pub begin_rows-requires-clause-fresh : goal.begin_rows-requires-clause-fresh
begin_rows-requires-clause-fresh c =
    commit_fresh c.args.self.now _ c.end_rows.new.self c.requires.kept.state (op_of c.args.op.now) c.self.inside.next_id (begins (goal.at.begin_rows-requires-clause-fresh c).After-added) (ap (λ (s : Contents). s.next_id) c.self.view_is) c.end_rows.ensures
    c.requires.kept.stands c.requires.next c.requires.change c.requires.succeeds

pub begin_lone-requires-clause-fresh : goal.begin_lone-requires-clause-fresh
begin_lone-requires-clause-fresh c =
    let start = begun_commit c.args.self.now (added c.args.op.now.call.now) in
    let closed = c.end_one.new.self in
    let begun = begins (goal.at.begin_lone-requires-clause-fresh c).After-added in
    let lone = c.in-None-Some.ensures'.change in
    let ends = c.end_one.ensures ∙ ap (λ (s : Contents). with_slots (map (close (ended_by (change_of c.in-None-Some.change ∷ [])) s.stamp) s.slots) s) begun ∙ ap (λ l. with_slots (map (close (ended_by l) start.stamp) start.slots) start) (sym lone) in
    subst (λ l. AreFresh closed.next_id (visible closed.stamp closed.slots) (begun_by c.self.inside.next_id l)) lone
    (commit_fresh c.args.self.now start closed c.requires.kept.state (op_of c.args.op.now) c.self.inside.next_id refl (ap (λ (s : Contents). s.next_id) c.self.view_is) ends c.requires.kept.stands c.requires.next c.requires.change c.requires.succeeds)

pub begin_rows-requires-clause-small : goal.begin_rows-requires-clause-small
begin_rows-requires-clause-small c = let small = next_id-small _ c.requires.kept.bounded in let same = ap (λ (s : Contents). s.next_id) c.self.view_is in omega (arith, same)

pub returns-in-None-None-clause-slots : goal.returns-in-None-None-clause-slots
returns-in-None-None-clause-slots c =
    let op = op_of c.args.op.now in
    let changes = changes_of op.call in
    let keep = subst (λ (s : Contents). KeepSlots s.stamp s.slots changes op.slots) (begins (goal.at.returns-in-None-None-clause-slots c).After-added) (c.keeps_slots.ensures c.if-keeps_slots.true) in
    commit_kept c.args.self.now _ _ op (tracked (goal.at.returns-in-None-None-clause-slots c).After-added) (formed_apart op.call (IsAllowed-from c.args.self.now op c.requires.next).formed) keep c.requires.change c.requires.succeeds c.requires.fits
    ∙ ap Some (sym (ap (λ (s : Contents). s.slots) c.replace_rows.ensures ∙ ap (λ (s : Contents). replaced s.stamp changes op.slots s.slots) (begins (goal.at.returns-in-None-None-clause-slots c).After-added)))

pub returns-in-Some-default-clause-slots : goal.returns-in-Some-default-clause-slots
returns-in-Some-default-clause-slots c =
    let entry : Entry = record { id = c.in-Some-default.id; row = c.in-Some-default.row.now } in
    let returned = c.in-Some-default.ensures {u = tt} in
    let row = sym (ap (λ (s : Contents). row_at s.stamp entry.id s.slots c.in-Some-default.place) (begins (goal.at.returns-in-Some-default-clause-slots c).After-added)) ∙ returned.2 in
    commit_replaced c.args.self.now _ _ (op_of c.args.op.now) entry c.in-Some-default.place (tracked (goal.at.returns-in-Some-default-clause-slots c).After-added) returned.0 returned.1 row c.requires.change c.requires.succeeds c.requires.fits
    ∙ ap Some (sym (ap (λ (s : Contents). s.slots) c.replace.ensures ∙ ap (λ (s : Contents). set s.slots c.in-Some-default.place (new_version s.stamp entry)) (begins (goal.at.returns-in-Some-default-clause-slots c).After-added)))
