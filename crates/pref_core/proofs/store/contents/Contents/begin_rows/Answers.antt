use Rattle.pref_core.proofs.Common.{◌+◌, ◌++◌, ◌∷◌, List, [], Option, drop, sym, ap, ◌∙◌, subst, arith, Version, Entry, begun_by, added_by, filled, stamps, changes_of, begun, change_of}
use Rattle.pref_core.proofs.ChangesLaws.{added_one, begun_at}
use Rattle.pref_core.proofs.FilledLaws.{BegunUpTo, BeginsNext, begins_next, begun_one}
use Rattle.pref_core.proofs.store.contents.Contents.begin_rows.Goals.{In-Some, in-Some, in_default}
use Rattle.pref_core.proofs.store.contents.Contents.begin_rows.Goals as goal

-- the rows behind the one that begins
abbrev rest : In-Some → List Entry
rest c = begun_by (c.loop-at.next_id + added_by ((change_of c.change-change.result) ∷ [])) (drop (c.loop-at.at + 1) (changes_of c.args.call.now))

abbrev all : In-Some → Option (List (Option Version))
all c = filled (stamps c.args.self.now) c.args.self.now.stamp c.args.slots.now (begun c.args.first c.args.call.now) c.args.self.now.slots

next : (c : In-Some) → BeginsNext c.args.self.now c.loop-at.self c.args.slots.now c.loop-at.used (record { id = c.in-Some.id; row = c.in-Some.row.now }) (rest c) (all c)
next c =
    let is = begun_at c.loop-at.next_id (changes_of c.args.call.now) c.loop-at.at (change_of c.change-change.result) c.change-change.ensures ∙ ap (λ l. l ++ rest c) c.in-Some.ensures.some in
    begins_next c.args.self.now c.loop-at.self c.args.slots.now c.loop-at.used (record { id = c.in-Some.id; row = c.in-Some.row.now }) (rest c) (all c)
    (subst (λ l. BegunUpTo c.args.self.now c.loop-at.self (drop c.loop-at.used c.args.slots.now) l (all c)) is c.loop-at.invariant.begun)

pub bounds-slots-used : goal.bounds-slots-used
bounds-slots-used c = (next (goal.at.bounds-slots-used c).In-Some).inside

pub begin_row-requires-clause-free : goal.begin_row-requires-clause-free
begin_row-requires-clause-free c = (next (goal.at.begin_row-requires-clause-free c).In-Some).free

pub begin_row-requires-clause-absent : goal.begin_row-requires-clause-absent
begin_row-requires-clause-absent c = (next (goal.at.begin_row-requires-clause-absent c).In-Some).absent

pub begin_row-requires-clause-low : goal.begin_row-requires-clause-low
begin_row-requires-clause-low c = (next (goal.at.begin_row-requires-clause-low c).In-Some).low

pub loop-at-preserved : goal.loop-at-preserved
loop-at-preserved c =
    let start = c.args.self.now in
    let changes = changes_of c.args.call.now in
    let rest = begun_by (c.loop-at.next_id + added_by ((change_of c.change-change.result) ∷ [])) (drop (c.loop-at.at + 1) changes) in
    let all = filled (stamps start) start.stamp c.args.slots.now (begun c.args.first c.args.call.now) start.slots in
    let slots = c.args.slots.now in
    let used = c.loop-at.used in
    let from = begun_at c.loop-at.next_id changes c.loop-at.at (change_of c.change-change.result) c.change-change.ensures in
    let one = added_one (change_of c.change-change.result) in
    let returned = c.added-next_id.ensures in
    let few = c.loop-at.invariant.few in
    let before = c.loop-at.invariant.used in
    record {
      begun = subst (λ n. BegunUpTo start c.match-begun.self (drop c.match-begun.used slots) (begun_by (c.loop-at.next_id + n) (drop (c.loop-at.at + 1) changes)) all) (sym returned)
          (elim c.match-begun.branch [
            | in-Some w ↦
                let is = from ∙ ap (λ l. l ++ rest) w.in-Some.ensures.some in
                subst (λ s. BegunUpTo start s (drop c.match-begun.used slots) rest all) (sym w.self-is) (subst (λ n. BegunUpTo start w.begin_row.new.self (drop n slots) rest all) (sym w.used-is)
                (begun_one start c.loop-at.self w.begin_row.new.self slots used (record { id = w.in-Some.id; row = w.in-Some.row.now }) rest all
                (subst (λ l. BegunUpTo start c.loop-at.self (drop used slots) l all) is c.loop-at.invariant.begun) w.begin_row.ensures))
            | in_default w ↦
                let is = from ∙ ap (λ l. l ++ rest) w.in_default.ensures.none in
                subst (λ s. BegunUpTo start s (drop c.match-begun.used slots) rest all) (sym w.self-is) (subst (λ n. BegunUpTo start c.loop-at.self (drop n slots) rest all) (sym w.used-is)
                (subst (λ l. BegunUpTo start c.loop-at.self (drop used slots) l all) is c.loop-at.invariant.begun))
          ]);
      few = omega arith;
      used = elim c.match-begun.branch [
        | in-Some w ↦ let more = w.used-is in omega arith
        | in_default w ↦ let same = w.used-is in omega arith
      ];
    }
