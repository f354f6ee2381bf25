-- Rows that a commit sets, each replaced where it stands.
use Rattle.pref_core.proofs.Common.{◌≡◌, Bor, ℕ, suc, ◌+◌, ◌<◌, true, false, List, [], ◌∷◌, map, length, drop, set, Option, Some, is_some, slice_get, get_or, refl, ap}
use Rattle.pref_core.proofs.Common.{arith, map-set, set-set, Change, Set, Op, SlotUse, Version, ended_by, begun_by, row_at, IsTracked, KeepSlots, replaced, with_slots, change_of}
use Rattle.pref_core.proofs.Common.{close, filled, slots_after, Row, Contents, new_version, stamps, added, changes_of, ended, is_change, succeeds, among}
use Rattle.pref_core.specs.declared.changes.LentChange.{LentChange}
use Rattle.pref_core.specs.declared.changes.LentChange.TheVariants.{Set as LentSet}
use Rattle.pref_core.proofs.ChangesLaws.{AreApart, drop_at, drop_item}
use Rattle.pref_core.proofs.FilledLaws.{begun_commit, close_more, end_slots, replace_tracked, tracked_next}
use Rattle.pref_core.proofs.Common.{Entry, drop_all}
use Rattle.pref_core.proofs.ChosenSlots.{close_none}
use Rattle.pref_core.proofs.StabilityLaws.{slice_get-set_same, slice_get-set_other}
use Rattle.pref_core.proofs.SlotUseLaws.{row_version}

-- Rows that stand in their slots still do once another one was replaced.
pub keeps_still : (stamp id place : ℕ) (row : Row) (slots : List (Option Version)) (changes : List Change) (places : List ℕ) → row_at stamp id slots place ≡ true → KeepSlots stamp slots changes places → KeepSlots stamp (set slots place (new_version stamp (record { id = id; row = row }))) changes places
keeps_still stamp id place row slots (Set other next ∷ changes) (at ∷ places) here keep = (grind (arith, slice_get-set_same, slice_get-set_other), keeps_still stamp id place row slots changes places here keep.1)
keeps_still stamp id place row slots changes places here keep = grind (arith)

-- One row is replaced and the others end, in either order.
closed_still : (contents : Contents) (uses : List SlotUse) (links : List ℕ) (id place : ℕ) (row : Row) (ids : List ℕ) → IsTracked contents uses links → row_at contents.stamp id contents.slots place ≡ true → among ids id ≡ false
    → set (map (close (id ∷ ids) contents.stamp) contents.slots) place (new_version contents.stamp (record { id = id; row = row })) ≡ map (close ids contents.stamp) (set contents.slots place (new_version contents.stamp (record { id = id; row = row })))
closed_still contents uses links id place row ids h here apart =
    let found = row_version contents.stamp id contents.slots place here in
    grind (arith, close_more (id ∷ []) ids contents.stamp contents.slots, end_slots contents uses links id place found.0 h here found.1, map-set, set-set)

pub rows_replaced : (contents : Contents) (uses : List SlotUse) (links : List ℕ) (next : ℕ) (changes : List Change) (places : List ℕ) → IsTracked contents uses links → AreApart (ended_by changes) → KeepSlots contents.stamp contents.slots changes places
    → is_some (filled (stamps contents) contents.stamp places (begun_by next changes) (map (close (ended_by changes) contents.stamp) contents.slots)) ≡ true
    → filled (stamps contents) contents.stamp places (begun_by next changes) (map (close (ended_by changes) contents.stamp) contents.slots) ≡ Some (replaced contents.stamp changes places contents.slots)
rows_replaced contents uses links next [] [] h apart keep fits = ap Some (close_none contents.stamp contents.slots)
rows_replaced contents uses links next (Set id row ∷ changes) (place ∷ places) h apart keep fits =
    let found = row_version contents.stamp id contents.slots place keep.0 in
    let moved = closed_still contents uses links id place row (ended_by changes) h keep.0 apart.0 in
    let now = with_slots (set contents.slots place (new_version contents.stamp (record { id = id; row = row }))) contents in
    grind (
      arith,
      rows_replaced now uses links next changes places (replace_tracked contents uses links id place found.0 h keep.0 found.1 (record { id = id; row = row }) _ refl refl) apart.1
          (keeps_still contents.stamp id place row contents.slots changes places keep.0 keep.1),
    )
rows_replaced contents uses links next changes places h apart keep fits = absurd (grind (arith))

-- A commit whose rows stay in their slots writes these alone.
pub commit_kept : (now : Contents) (uses : List SlotUse) (links : List ℕ) (op : Op) → IsTracked now uses links → AreApart (ended op.call) → KeepSlots (suc now.stamp) now.slots (changes_of op.call) op.slots
    → is_change op.call ≡ true → succeeds op.outcome ≡ true → is_some (slots_after now op) ≡ true → slots_after now op ≡ Some (replaced (suc now.stamp) (changes_of op.call) op.slots now.slots)
commit_kept now uses links op h apart keep c s fits =
    grind (arith, rows_replaced (begun_commit now (added op.call)) uses links now.next_id (changes_of op.call) op.slots (tracked_next now uses links (added op.call) h) apart keep)

-- So an update whose row stays in its slot writes this slot alone.
pub commit_replaced : (now : Contents) (uses : List SlotUse) (links : List ℕ) (op : Op) (entry : Entry) (place : ℕ) → IsTracked now uses links → changes_of op.call ≡ Set entry.id entry.row ∷ []
    → op.slots ≡ place ∷ [] → row_at (suc now.stamp) entry.id now.slots place ≡ true
    → is_change op.call ≡ true → succeeds op.outcome ≡ true → is_some (slots_after now op) ≡ true → slots_after now op ≡ Some (set now.slots place (new_version (suc now.stamp) entry))
commit_replaced now uses links op entry place h call slots row c s fits = grind (arith, commit_kept now uses links op h)

-- What is left of the rows, when some were replaced.
pub record ReplacedUpTo (start now : Contents) (changes : List Change) (places : List ℕ) (all : List (Option Version)) : Type 0 where
  pub contents : now ≡ with_slots now.slots start
  pub keep : KeepSlots now.stamp now.slots changes places
  pub rest : replaced now.stamp changes places now.slots ≡ all

-- What is known as the next row is replaced, ..
pub record ReplacesNext (now : Contents) (changes : List Change) (places : List ℕ) (at id : ℕ) (row : Row) (all : List (Option Version)) : Type 0 where
  pub inside : at < length places
  pub stands : row_at now.stamp id now.slots (get_or places at 0) ≡ true
  pub keep : KeepSlots now.stamp now.slots (drop (at + 1) changes) (drop (at + 1) places)
  pub rest : replaced now.stamp (drop (at + 1) changes) (drop (at + 1) places) (set now.slots (get_or places at 0) (new_version now.stamp (record { id = id; row = row }))) ≡ all

pub replaces_next : (start now : Contents) (changes : List Change) (places : List ℕ) (at id : ℕ) (row : Row) (all : List (Option Version)) → slice_get changes at ≡ Some (Set id row) → ReplacedUpTo start now (drop at changes) (drop at places) all
    → ReplacesNext now changes places at id row all
replaces_next start now changes places at id row all is h = grind (arith, drop_at changes at (Set id row) is, drop_item places at (get_or places at 0) 0 refl, drop_all at places)

-- .. and once it was.
pub replaced_one : (start now new : Contents) (changes : List Change) (places : List ℕ) (at id : ℕ) (row : Row) (all : List (Option Version)) → slice_get changes at ≡ Some (Set id row) → ReplacedUpTo start now (drop at changes) (drop at places) all
    → new ≡ with_slots (set now.slots (get_or places at 0) (new_version now.stamp (record { id = id; row = row }))) now → ReplacedUpTo start new (drop (at + 1) changes) (drop (at + 1) places) all
replaced_one start now new changes places at id row all is h returned =
    grind (arith, replaces_next start now changes places at id row all is h, keeps_still now.stamp id (get_or places at 0) row now.slots (drop (at + 1) changes) (drop (at + 1) places))

-- each of the changes sets a row
pub sets_row : (stamp : ℕ) (slots : List (Option Version)) (change : LentChange) (rest : List Change) (places : List ℕ) → KeepSlots stamp slots (change_of change ∷ rest) places → ((id : ℕ) (row : Bor Row) → change ≡ LentSet id row → ⊥) → ⊥
sets_row stamp slots change rest places keep other = grind (arith)
