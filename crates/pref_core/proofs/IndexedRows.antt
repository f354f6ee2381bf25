-- The index of a store, after an op.
use Rattle.pref_core.proofs.Common.{and_right, ◌≡◌, ℕ, suc, ◌+◌, ◌<◌, ◌≤◌, Bool, true, false, eqb, List, ◌∷◌, map, length, set, Option, Some, None, slice_get, refl, sym, ap}
use Rattle.pref_core.proofs.Common.{◌∙◌, arith, AllByRecursion, true≢false, Version, among, Entry, is_visible, new_version, IsWithin}
use Rattle.pref_core.proofs.Common.{close, is_free, slot_of, Points, is_row, row_at, IsPlaceOf, false_from_ne_true}
use Rattle.pref_core.proofs.SlotUseLaws.{has_row_at, has_nowhere}

-- what a slot shows of an id
abbrev row_of : ℕ → ℕ → Option (Option Version) → Bool
row_of stamp id o = elim o [ None ↦ false | Some slot ↦ is_row stamp id slot ]

-- A commit that doesn't end the id's row leaves it where it is.
pub row_at-close : (next now id : ℕ) (ids : List ℕ) (slots : List (Option Version)) (k : ℕ) → AllByRecursion (IsWithin next now) slots → among ids id ≡ false → row_at (suc now) id (map (close ids (suc now)) slots) k ≡ row_at now id slots k
row_at-close next now id ids (slot ∷ slots) (suc k) h out = row_at-close next now id ids slots k h.1 out
row_at-close next now id ids slots k h out = grind (arith)

-- A commit that ends it leaves it nowhere.
pub row_at-ended : (next now id : ℕ) (ids : List ℕ) (slots : List (Option Version)) (k : ℕ) → AllByRecursion (IsWithin next now) slots → among ids id ≡ true → row_at (suc now) id (map (close ids (suc now)) slots) k ≡ false
row_at-ended next now id ids (slot ∷ slots) (suc k) h out = row_at-ended next now id ids slots k h.1 out
row_at-ended next now id ids slots k h out = grind (arith)

-- A row that begins at a free place stands there, and no other row does.
pub row_at-new_version : (made : ℕ) (fresh : Entry) (ns : List ℕ) (slots : List (Option Version)) (place : ℕ) → is_free (made ∷ ns) slots place ≡ true → row_at made fresh.id (set slots place (new_version made fresh)) place ≡ true
row_at-new_version made fresh ns (slot ∷ slots) (suc place) h = row_at-new_version made fresh ns slots place h
row_at-new_version made fresh ns slots place h = grind (arith)

row_at-other : (made id : ℕ) (fresh : Entry) (ns : List ℕ) (slots : List (Option Version)) (place k : ℕ) → is_free (made ∷ ns) slots place ≡ true → eqb fresh.id id ≡ false → row_at made id (set slots place (new_version made fresh)) k ≡ row_at made id slots k
row_at-other made id fresh ns (slot ∷ slots) (suc place) (suc k) h other = row_at-other made id fresh ns slots place k h other
row_at-other made id fresh ns slots place k h other = grind (arith)

-- The place of an id, where each slot shows the id's row as the slot there did before.
pub moved_place : (stamp later id : ℕ) (slots moved : List (Option Version)) (place : Option ℕ) → ((k : ℕ) → row_at later id moved k ≡ row_at stamp id slots k) → IsPlaceOf stamp id slots place → IsPlaceOf later id moved place
moved_place stamp later id slots moved None same h = has_nowhere later id moved (λ k l. false_from_ne_true (row_at later id moved k) (λ r. true≢false (sym (has_row_at stamp id slots k (sym (same k) ∙ r)) ∙ h)))
moved_place stamp later id slots moved (Some place) same h = same place ∙ h

-- The place of each id after a commit that ends rows: ..
pub closed_place : (next now id : ℕ) (ids : List ℕ) (slots : List (Option Version)) (place : Option ℕ) → AllByRecursion (IsWithin next now) slots → among ids id ≡ false → IsPlaceOf now id slots place → IsPlaceOf (suc now) id (map (close ids (suc now)) slots) place
closed_place next now id ids slots place h out = moved_place now (suc now) id slots (map (close ids (suc now)) slots) place (λ k. row_at-close next now id ids slots k h out)

pub ended_place : (next now id : ℕ) (ids : List ℕ) (slots : List (Option Version)) → AllByRecursion (IsWithin next now) slots → among ids id ≡ true → IsPlaceOf (suc now) id (map (close ids (suc now)) slots) None
ended_place next now id ids slots h out = has_nowhere (suc now) id (map (close ids (suc now)) slots) (λ k l. row_at-ended next now id ids slots k h out)

-- .. and that begins one at a free place.
pub other_place : (made id : ℕ) (fresh : Entry) (ns : List ℕ) (slots : List (Option Version)) (at : ℕ) (place : Option ℕ) → is_free (made ∷ ns) slots at ≡ true → eqb fresh.id id ≡ false → IsPlaceOf made id slots place → IsPlaceOf made id (set slots at (new_version made fresh)) place
other_place made id fresh ns slots at place free other = moved_place made made id slots (set slots at (new_version made fresh)) place (λ k. row_at-other made id fresh ns slots at k free other)

-- The place of an id among the first slots, for an index that is being made.
abbrev pub IsPlaceUpTo : ℕ → ℕ → List (Option Version) → ℕ → Option ℕ → Type 0
IsPlaceUpTo stamp id slots count None = (k : ℕ) → k < count → row_at stamp id slots k ≡ false
IsPlaceUpTo stamp id slots count (Some place) = row_at stamp id slots place ≡ true

pub place_at_end : (stamp id : ℕ) (slots : List (Option Version)) (count : ℕ) (place : Option ℕ) → length slots ≤ count → IsPlaceUpTo stamp id slots count place → IsPlaceOf stamp id slots place
place_at_end stamp id slots count None l h = has_nowhere stamp id slots (λ k less. h k (omega arith))
place_at_end stamp id slots count (Some place) l h = h

pub place_past : (stamp id : ℕ) (slots : List (Option Version)) (count : ℕ) (place : Option ℕ) → row_at stamp id slots count ≡ false → IsPlaceUpTo stamp id slots count place → IsPlaceUpTo stamp id slots (count + 1) place
place_past stamp id slots count place none h = grind (arith)

-- a slot that shows no row at the stamp
pub row_at-hidden : (stamp id : ℕ) (slots : List (Option Version)) (place : ℕ) (version : Version) → slice_get slots place ≡ Some (Some version) → is_visible stamp version ≡ false → row_at stamp id slots place ≡ false
row_at-hidden stamp id slots place version at hidden = ap (row_of stamp id) at ∙ rw hidden (and_right (eqb version.id id) false refl)

pub row_at-empty : (stamp id : ℕ) (slots : List (Option Version)) (place : ℕ) → slice_get slots place ≡ Some None → row_at stamp id slots place ≡ false
row_at-empty stamp id slots place at = ap (row_of stamp id) at

-- a slot that shows one
pub place_put : (stamp id : ℕ) (slots : List (Option Version)) (count : ℕ) (version : Version) (old new : List (ℕ × ℕ)) → slice_get slots count ≡ Some (Some version) → is_visible stamp version ≡ true
    → Points old version.id (Some count) new → IsPlaceUpTo stamp id slots count (slot_of old id) → IsPlaceUpTo stamp id slots (count + 1) (slot_of new id)
place_put stamp id slots count version old new at shown points h = grind (arith)
