use Rattle.pref_core.proofs.Common.{[], ◌≡◌, ◌+◌, ◌++◌, ℕ, suc, ◌∷◌, Bool, true, false, cond, take, drop, sym, ap, ◌∙◌, subst, arith, option_to_list, append-nil, ended_by, IsPlaceOf, frees_at}
use Rattle.pref_core.proofs.Common.{begins, changes_of, change_of, row_at}
use Rattle.pref_core.proofs.ChangesLaws.{among_inside, ended_so_far, formed_apart, ended_next}
use Rattle.pref_core.proofs.FreedLaws.{FreesUpTo, frees_none, frees_one, frees_missing, named_once}
use Rattle.pref_core.proofs.store.contents.Contents.freed_places.Goals.{in-Some+in-Some-place_of+then-frees, in-Some+in-Some-place_of+else-frees, in_default}
use Rattle.pref_core.proofs.store.contents.Contents.freed_places.Goals as goal

pub loop-at-init : goal.loop-at-init
loop-at-init c = frees_none c.args.self.now

pub loop-at-preserved : goal.loop-at-preserved
loop-at-preserved c =
    let now = c.args.self.now in
    let changes = changes_of c.args.call.now in
    let freed = c.loop-at.freed in
    let done = ended_by (take c.loop-at.at changes) in
    let more : ended_by (take (c.loop-at.at + 1) changes) ≡ done ++ option_to_list c.ended.result = ended_so_far changes c.loop-at.at (change_of c.change.result) c.change.ensures ∙ ap (λ l. done ++ l) (sym c.ended.ensures) in
    let one : (id place : ℕ) (b : Bool) → option_to_list c.ended.result ≡ id ∷ [] → row_at now.stamp id now.slots place ≡ true → b ≡ frees_at (begins now.callers) (done ++ id ∷ []) (now.stamp + 1) now.slots place
    → FreesUpTo now (ended_by (take (c.loop-at.at + 1) changes)) (cond b (freed ++ place ∷ []) freed)
    = λ id place b named row frees.
    let next : suc now.stamp ≡ now.stamp + 1 = omega arith in
    subst (λ l. FreesUpTo now l (cond b (freed ++ place ∷ []) freed)) (sym (more ∙ ap (λ l. done ++ l) named))
    (frees_one now c.requires.kept.state c.requires.kept.bounded c.requires.kept.stands done freed id place b
    (named_once changes c.loop-at.at (change_of c.change.result) id c.change.ensures (sym c.ended.ensures ∙ named) (formed_apart c.args.call.now c.count-at-end.ensures.formed)) row c.loop-at.invariant
    (ap (λ m. frees_at (begins now.callers) (done ++ id ∷ []) m now.slots place) next ∙ sym frees)) in
    elim c.match-ended.branch [
      | in-Some+in-Some-place_of+then-frees w ↦
          subst (FreesUpTo now (ended_by (take (c.loop-at.at + 1) changes))) (sym (w.freed-is ∙ w.push.ensures))
          (one w.in-Some.id w.in-Some-place_of.place true (ap option_to_list w.in-Some.is) w.in-Some-place_of.ensures (sym w.if-frees.true ∙ w.frees.ensures.row (done ++ w.in-Some.id ∷ []) w.in-Some.id (among_inside done [] w.in-Some.id) w.in-Some-place_of.ensures))
      | in-Some+in-Some-place_of+else-frees w ↦
          subst (FreesUpTo now (ended_by (take (c.loop-at.at + 1) changes))) (sym w.freed-is)
          (one w.in-Some.id w.in-Some-place_of.place false (ap option_to_list w.in-Some.is) w.in-Some-place_of.ensures (sym w.if-frees.false ∙ w.frees.ensures.row (done ++ w.in-Some.id ∷ []) w.in-Some.id (among_inside done [] w.in-Some.id) w.in-Some-place_of.ensures))
      | in_default w ↦
          subst (FreesUpTo now (ended_by (take (c.loop-at.at + 1) changes))) (sym w.freed-is)
          (subst (λ l. FreesUpTo now l freed) (sym (more ∙ ap (λ o. done ++ option_to_list o) w.in_default.is ∙ append-nil done)) c.loop-at.invariant)
    ]

pub returns-in_default-place_of-clause-found : goal.returns-in_default-place_of-clause-found
returns-in_default-place_of-clause-found c =
    let now = c.args.self.now in
    let changes = changes_of c.args.call.now in
    frees_missing now (ended_by changes) (ended_by (take c.loop-at.at changes)) (ended_by (drop (c.loop-at.at + 1) changes)) c.loop-at.freed c.in-Some.id
    (ended_next changes c.loop-at.at (change_of c.change.result) c.in-Some.id c.change.ensures (sym c.in-Some.ensures)) c.loop-at.invariant
    (subst (IsPlaceOf now.stamp c.in-Some.id now.slots) c.in_default-place_of.is c.place_of.ensures)
