-- Slots for the rows that a call begins: there are some exactly where the needed versions fit, and they are chosen one after the other, in any way.
use Rattle.pref_core.proofs.Common.{◌≡◌, ℕ, zero, suc, ◌+◌, ◌<◌, ◌≤◌, Bool, true, false, not, cond, List, [], ◌∷◌, ◌++◌, map, length, Option, Some, None, slice_get, slice_set, refl, ap, ◌∙◌}
use Rattle.pref_core.proofs.Common.{arith, count_by, count_by-le-length, or_parts, eqb-false, Version, Entry, among, is_needed, new_version, is_free, filled, not-false, length-map, Call}
use Rattle.pref_core.proofs.Common.{ended, begun, success_outcome, succeeds, Contents, begins, close, grown, used, ◌&&◌, Result, Ok, is_some, length-append, append-nil}
use Rattle.pref_core.proofs.Common.{append_assoc, Op, changes_of, begins_row, is_change, missing, visible, placed, outcome_at, NoSuchRow, is_free_use}
use Rattle.pref_core.proofs.Common.{IsFreed, FindsFreed, is_open, uses_of, rules}
use Rattle.pref_core.proofs.SlotSetsLaws.{count_set}
use Rattle.pref_sky.proofs.ListLaws.{count_cons}
use Rattle.pref_core.proofs.StandsForLaws.{some_then}
use Rattle.pref_core.proofs.SlotUseLaws.{one_no}
use Rattle.pref_core.proofs.StabilityLaws.{slice_get-set_same, slice_get-set_other}
use Rattle.pref_core.proofs.BoundsLaws.{length-filled}
use Rattle.pref_core.proofs.ChangesLaws.{begun_few, begins_some}

one_of : (b : Bool) → b ≡ true → ◌≡◌ {A = ℕ} (cond b 1 0) 1
one_of b e = ap (λ t. cond t 1 0) e

count_by_set : {X : Type 0} (p : X → Bool) (xs : List X) (k : ℕ) (old new : X) → slice_get xs k ≡ Some old → p old ≡ false → p new ≡ true → count_by p (slice_set xs k new) ≡ suc (count_by p xs)
count_by_set p xs k old new at off on = omega (arith, count_set p xs k old new at, one_no (p old) off, one_of (p new) on)

-- as many more are needed as rows begin
pub filled_needs : (made : ℕ) (ns places : List ℕ) (begun : List Entry) (slots after : List (Option Version)) → filled (made ∷ ns) made places begun slots ≡ Some after
    → count_by (is_needed (made ∷ ns)) after ≡ count_by (is_needed (made ∷ ns)) slots + length begun
filled_needs made ns [] begun slots after e = grind (arith)
filled_needs made ns (place ∷ places) begun slots after e = grind (arith, filled_needs made ns places, count_by_set)

-- one place more
pub filled_snoc : (ns : List ℕ) (made : ℕ) (places : List ℕ) (begun : List Entry) (slots now : List (Option Version)) (place : ℕ) (fresh : Entry) → filled ns made places begun slots ≡ Some now → is_free ns now place ≡ true
    → filled ns made (places ++ place ∷ []) (begun ++ fresh ∷ []) slots ≡ Some (slice_set now place (new_version made fresh))
filled_snoc ns made [] begun slots now place fresh e f = grind (arith)
filled_snoc ns made (first ∷ places) begun slots now place fresh e f = grind (arith, filled_snoc ns made places)

-- a place that no row took is as free as before
pub free_still : (ns : List ℕ) (made : ℕ) (places : List ℕ) (begun : List Entry) (slots now : List (Option Version)) (place : ℕ) → filled ns made places begun slots ≡ Some now → among places place ≡ false → is_free ns now place ≡ is_free ns slots place
free_still ns made (first ∷ places) (entry ∷ rest) slots now place e a = grind (arith, free_still ns made places rest (slice_set slots first (new_version made entry)) now place, or_parts, some_then, slice_get-set_other, eqb-false)
free_still ns made places begun slots now place e a = grind (arith)

-- one that wasn't free isn't
pub not_freed : (ns : List ℕ) (made : ℕ) (places : List ℕ) (begun : List Entry) (slots now : List (Option Version)) (place : ℕ) → filled ns made places begun slots ≡ Some now → is_free ns slots place ≡ false → is_free ns now place ≡ false
not_freed ns made [] begun slots now place e n = grind (arith)
not_freed ns made (first ∷ places) begun slots now place e n = grind (arith, not_freed ns made places, slice_get-set_other)

-- one that a row took isn't
pub taken : (made : ℕ) (ns places : List ℕ) (begun : List Entry) (slots now : List (Option Version)) (place : ℕ) → filled (made ∷ ns) made places begun slots ≡ Some now → among places place ≡ true → is_free (made ∷ ns) now place ≡ false
taken made ns [] begun slots now place e a = grind (arith)
taken made ns (first ∷ places) begun slots now place e a = grind (arith, taken made ns places, slice_get-set_same, not_freed)

-- where no place is free all are needed
pub all_needed : (ns : List ℕ) (slots : List (Option Version)) → ((place : ℕ) → is_free ns slots place ≡ false) → count_by (is_needed ns) slots ≡ length slots
all_needed ns [] h = refl
all_needed ns (slot ∷ slots) h = grind (arith, all_needed ns slots (λ place. h (suc place)), count_cons (is_needed ns) slot slots, not-false (is_needed ns slot) (h zero))

-- As long as rows are left that fit, some free place is not among those chosen so far: whoever looks at each place that was free finds one.
pub some_left : (made : ℕ) (ns places : List ℕ) (begun : List Entry) (slots now : List (Option Version)) → filled (made ∷ ns) made places begun slots ≡ Some now
    → count_by (is_needed (made ∷ ns)) slots + length begun < length slots → ((place : ℕ) → is_free (made ∷ ns) slots place ≡ true → among places place ≡ true) → ⊥
some_left made ns places begun slots now e fits chosen =
    grind (arith, all_needed (made ∷ ns) now (λ place. grind (arith, taken, not_freed)), filled_needs made ns places begun slots now e, length-filled)

-- the needed versions once these rows have begun, had they always room
pub count_grown : (made : ℕ) (ns : List ℕ) (begun : List Entry) (slots : List (Option Version)) → count_by (is_needed (made ∷ ns)) (map (new_version made) begun ++ slots) ≡ count_by (is_needed (made ∷ ns)) slots + length begun
count_grown made ns [] slots = omega arith
count_grown made ns (fresh ∷ rest) slots = grind (arith, count_grown made ns rest slots, count_cons (is_needed (made ∷ ns)) (new_version made fresh) (map (new_version made) rest ++ slots))

-- A change that has slots for its rows isn't full.
pub plan_is_not_full : (contents : Contents) (call : Call) (places : List ℕ) (after : List (Option Version)) → filled (suc contents.stamp ∷ begins contents.callers) (suc contents.stamp) places (begun contents.next_id call) (map (close (ended call) (suc contents.stamp)) contents.slots) ≡ Some after
    → used (grown call contents) ≤ length contents.slots
plan_is_not_full contents call places after e =
    grind (arith, filled_needs (suc contents.stamp) (begins contents.callers) places, count_by-le-length, length-filled, count_grown (suc contents.stamp) (begins contents.callers), length-map contents.slots (close (ended call) (suc contents.stamp)))

-- nothing ends
pub close_none : (stamp : ℕ) (slots : List (Option Version)) → map (close [] stamp) slots ≡ slots
close_none stamp [] = refl
close_none stamp (slot ∷ slots) = grind (arith, close_none stamp slots)

abbrev pub closed_slots : Contents → List ℕ → List (Option Version)
closed_slots contents ids = map (close ids (suc contents.stamp)) contents.slots

abbrev pub stamps_next : Contents → List ℕ
stamps_next contents = suc contents.stamp ∷ begins contents.callers

-- The size that code computes.
pub size_is : (contents : Contents) (call : Call) (freed : List ℕ) (size free begun_rows : ℕ) → IsFreed contents (ended call) freed
    → begun_rows ≡ length (begun contents.next_id call) → free ≡ count_by is_free_use (uses_of contents) + length freed → size + free ≡ length contents.slots + begun_rows → size ≡ used (grown call contents)
size_is contents call freed size free begun_rows h rows is returned = search (rules, count_grown)

pub freed_less : (contents : Contents) (ids freed : List ℕ) → IsFreed contents ids freed → count_by is_free_use (uses_of contents) + length freed ≤ length contents.slots
freed_less contents ids freed h = let all = h.counted in omega arith

-- A call that misses a row does nothing.
pub missing_quiet : (contents : Contents) (op : Op) (freed : Result (List ℕ) ℕ) → FindsFreed contents (ended op.call) freed → ((places : List ℕ) → freed ≡ Ok places → ⊥) → op.outcome ≡ outcome_at contents op.call → (is_change op.call && succeeds op.outcome) ≡ false
missing_quiet contents op freed finds not returned = grind (arith)

-- What becomes of a change that misses a row, whether or not there is room.
pub outcome_missing : (contents : Contents) (call : Call) (id : ℕ) → is_change call ≡ true → missing (ended call) (visible contents.stamp contents.slots) ≡ Some id → outcome_at contents call ≡ NoSuchRow id
outcome_missing contents call id c lost = grind (arith)

pub outcome_fits : (contents : Contents) (call : Call) (size : ℕ) → is_change call ≡ true → missing (ended call) (visible contents.stamp contents.slots) ≡ None → begins_row call ≡ true → size ≡ used (grown call contents) → size ≤ length contents.slots → success_outcome contents.next_id call ≡ outcome_at contents call
outcome_fits contents call size c none row is small = grind (arith)

-- Rows that have their slots, before those that are left.
pub record ChosenUpTo (contents : Contents) (call : Call) (rest : List Entry) (chosen : List ℕ) : Type 0 where
  pub done : List Entry
  pub all : begun contents.next_id call ≡ done ++ rest
  pub now : List (Option Version)
  pub fills : filled (stamps_next contents) (suc contents.stamp) chosen done (closed_slots contents (ended call)) ≡ Some now

pub none_chosen : (contents : Contents) (call : Call) → ChosenUpTo contents call (begun contents.next_id call) []
none_chosen contents call = record { done = []; all = refl; now = closed_slots contents (ended call); fills = refl }

pub filled_long : (ns : List ℕ) (made : ℕ) (places : List ℕ) (begun : List Entry) (slots after : List (Option Version)) → filled ns made places begun slots ≡ Some after → length places ≡ length begun
filled_long ns made [] begun slots after e = grind (arith)
filled_long ns made (place ∷ places) begun slots after e = grind (arith, filled_long ns made places)

-- there is room for the number of one more
pub chosen_few : (contents : Contents) (call : Call) (fresh : Entry) (rest : List Entry) (chosen : List ℕ) → length (changes_of call) ≤ 8 → ChosenUpTo contents call (fresh ∷ rest) chosen → length chosen < 8
chosen_few contents call fresh rest chosen few h =
    grind (arith, filled_long (stamps_next contents) (suc contents.stamp) chosen h.done (closed_slots contents (ended call)) h.now h.fills, begun_few contents.next_id (changes_of call), length-append)

-- one more
pub choose_one : (contents : Contents) (call : Call) (fresh : Entry) (rest : List Entry) (chosen : List ℕ) (place : ℕ) (freed : List ℕ) → IsFreed contents (ended call) freed
    → is_open (uses_of contents) freed place ≡ true → among chosen place ≡ false → ChosenUpTo contents call (fresh ∷ rest) chosen → ChosenUpTo contents call rest (chosen ++ place ∷ [])
choose_one contents call fresh rest chosen place freed finds opens new h =
    grind (arith, append_assoc h.done (fresh ∷ []) rest, filled_snoc (stamps_next contents) (suc contents.stamp) chosen h.done (closed_slots contents (ended call)) h.now place fresh h.fills (free_still (stamps_next contents) (suc contents.stamp) chosen h.done (closed_slots contents (ended call)) h.now place h.fills new ∙ finds.opens place ∙ opens), free_still (stamps_next contents) (suc contents.stamp) chosen h.done (closed_slots contents (ended call)) h.now place h.fills new)

-- there is one
pub one_left : (contents : Contents) (call : Call) (fresh : Entry) (rest : List Entry) (chosen freed : List ℕ) → IsFreed contents (ended call) freed
    → is_change call ≡ true → succeeds (outcome_at contents call) ≡ true → ((place : ℕ) → is_open (uses_of contents) freed place ≡ true → among chosen place ≡ true) → ChosenUpTo contents call (fresh ∷ rest) chosen → ⊥
one_left contents call fresh rest chosen freed finds c ok taken h =
    grind (arith, some_left (suc contents.stamp) (begins contents.callers) chosen h.done (closed_slots contents (ended call)) h.now h.fills, begins_some contents.next_id (changes_of call), count_grown (suc contents.stamp) (begins contents.callers) (begun contents.next_id call) (closed_slots contents (ended call)), length-map, length-append)

-- all of them
pub all_chosen : (contents : Contents) (call : Call) (chosen : List ℕ) → is_change call ≡ true → succeeds (outcome_at contents call) ≡ true → ChosenUpTo contents call [] chosen → is_some (placed contents call chosen (outcome_at contents call)) ≡ true
all_chosen contents call chosen c ok h = grind (arith, append-nil)
