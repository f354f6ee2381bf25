use Rattle.pref_core.proofs.Common.{◌∷◌, List, [], Option, refl, subst, Version, begun_by, filled, stamps, change_of}
use Rattle.pref_core.proofs.FilledLaws.{BegunUpTo, begun_all, begun_one}
use Rattle.pref_core.proofs.store.contents.Contents.begin_lone.Goals.{After-begun}
use Rattle.pref_core.proofs.store.contents.Contents.begin_lone.Goals as goal

abbrev all : After-begun → Option (List (Option Version))
all c = filled (stamps c.args.self.now) c.args.self.now.stamp c.args.slots.now (begun_by c.args.first (change_of c.args.change ∷ [])) c.args.self.now.slots

begun : (c : After-begun) → BegunUpTo c.args.self.now c.args.self.now c.args.slots.now (begun_by c.args.first (change_of c.args.change ∷ [])) (all c)
begun c = record { contents = refl; fills = refl; some = c.requires.fits; fresh = c.requires.fresh }

pub returns-in-Some-clause-slots : goal.returns-in-Some-clause-slots
returns-in-Some-clause-slots c =
    let now = c.args.self.now in
    let start = (goal.at.returns-in-Some-clause-slots c).After-begun in
    let one = begun_one now now c.begin_row.new.self c.args.slots.now 0 (record { id = c.in-Some.id; row = c.in-Some.row.now }) [] (all start)
    (subst (λ l. BegunUpTo now now c.args.slots.now l (all start)) c.in-Some.ensures.some (begun start)) c.begin_row.ensures in
    begun_all now c.begin_row.new.self _ (all start) one

pub returns-in_default-clause-slots : goal.returns-in_default-clause-slots
returns-in_default-clause-slots c =
    let now = c.args.self.now in
    let start = (goal.at.returns-in_default-clause-slots c).After-begun in
    let none = subst (λ l. BegunUpTo now now c.args.slots.now l (all start)) c.in_default.ensures.none (begun start) in
    begun_all now now c.args.slots.now (all start) none
