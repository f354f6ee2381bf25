use Rattle.pref_core.proofs.Common.{[], ◌+◌, ◌++◌, ◌∷◌, drop, sym, ap, ◌∙◌, subst, arith, begun_by, added_by, changes_of, change_of}
use Rattle.pref_core.proofs.ChangesLaws.{begun_at, added_one}
use Rattle.pref_core.proofs.ChosenSlots.{ChosenUpTo, chosen_few, choose_one, one_left}
use Rattle.pref_core.proofs.store.contents.Contents.places_for.Goals.{in-Some+in-Some-choose, in_default}
use Rattle.pref_core.proofs.store.contents.Contents.places_for.Goals as goal

pub push-requires : goal.push-requires
push-requires c =
    let rest = begun_by (c.loop-at.next_id + added_by ((change_of c.change-change.result) ∷ [])) (drop (c.loop-at.at + 1) (changes_of c.args.call.now)) in
    let is = begun_at c.loop-at.next_id (changes_of c.args.call.now) c.loop-at.at (change_of c.change-change.result) c.change-change.ensures ∙ ap (λ l. l ++ rest) c.in-Some.ensures.some in
    chosen_few c.args.self.now c.args.call.now (record { id = c.in-Some.id; row = c.in-Some.field-0-1.now }) rest c.loop-at.chosen c.count-at-end.ensures.few (subst (λ l. ChosenUpTo c.args.self.now c.args.call.now l c.loop-at.chosen) is c.loop-at.invariant.chosen)

pub unreachable-requires : goal.unreachable-requires
unreachable-requires c =
    let rest = begun_by (c.loop-at.next_id + added_by ((change_of c.change-change.result) ∷ [])) (drop (c.loop-at.at + 1) (changes_of c.args.call.now)) in
    let is = begun_at c.loop-at.next_id (changes_of c.args.call.now) c.loop-at.at (change_of c.change-change.result) c.change-change.ensures ∙ ap (λ l. l ++ rest) c.in-Some.ensures.some in
    one_left c.args.self.now c.args.call.now (record { id = c.in-Some.id; row = c.in-Some.field-0-1.now }) rest c.loop-at.chosen c.args.freed.now c.requires.freed c.requires.change c.requires.succeeds
    c.in-None.ensures.none (subst (λ l. ChosenUpTo c.args.self.now c.args.call.now l c.loop-at.chosen) is c.loop-at.invariant.chosen)

pub loop-at-preserved : goal.loop-at-preserved
loop-at-preserved c =
    let now = c.args.self.now in
    let call = c.args.call.now in
    let rest = begun_by (c.loop-at.next_id + added_by ((change_of c.change-change.result) ∷ [])) (drop (c.loop-at.at + 1) (changes_of call)) in
    let one = added_one (change_of c.change-change.result) in
    record {
      chosen = subst (λ n. ChosenUpTo now call (begun_by (c.loop-at.next_id + n) (drop (c.loop-at.at + 1) (changes_of call))) c.match-begun.chosen) (sym c.added-next_id.ensures) (elim c.match-begun.branch [
        | in-Some+in-Some-choose w ↦
            let is = begun_at c.loop-at.next_id (changes_of call) c.loop-at.at (change_of c.change-change.result) c.change-change.ensures ∙ ap (λ l. l ++ rest) w.in-Some.ensures.some in
            subst (ChosenUpTo now call rest) (sym (w.chosen-is ∙ w.push.ensures))
            (choose_one now call (record { id = w.in-Some.id; row = w.in-Some.field-0-1.now }) rest c.loop-at.chosen w.in-Some-choose.place c.args.freed.now c.requires.freed w.in-Some-choose.ensures.found.0 w.in-Some-choose.ensures.found.1
            (subst (λ l. ChosenUpTo now call l c.loop-at.chosen) is c.loop-at.invariant.chosen))
        | in_default w ↦
            let is = begun_at c.loop-at.next_id (changes_of call) c.loop-at.at (change_of c.change-change.result) c.change-change.ensures ∙ ap (λ l. l ++ rest) w.in_default.ensures.none in
            subst (ChosenUpTo now call rest) (sym w.chosen-is) (subst (λ l. ChosenUpTo now call l c.loop-at.chosen) is c.loop-at.invariant.chosen)
      ]);
      few = omega arith;
    }
