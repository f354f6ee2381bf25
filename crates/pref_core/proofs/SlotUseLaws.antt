-- The uses of slots, and how many are free.
use Rattle.pref_core.proofs.Common.{◌≡◌, ℕ, zero, suc, ◌+◌, ◌<◌, Bool, true, false, not, cond, List, [], ◌∷◌, map, length, Option, Some, None, slice_get, refl, ap}
use Rattle.pref_core.proofs.Common.{arith, count_by, AllByRecursion, Version, Caller, has}
use Rattle.pref_core.proofs.Common.{visible, is_needed, begins, IsWithin, is_free, is_free_use, free_at, kept_from, use_of, is_spare, row_at}
use Rattle.pref_core.proofs.NeededCounts.{is_needed-empty}
use Rattle.pref_sky.proofs.ListLaws.{count_cons}

pub holds_there : {X : Type 0} (P : X → Type 0) (xs : List X) (k : ℕ) (x : X) → slice_get xs k ≡ Some x → AllByRecursion P xs → P x
holds_there P (y ∷ xs) (suc k) x at h = holds_there P xs k x at h.1
holds_there P xs k x at h = grind (arith)

kept_spare : (keeper : ℕ) (callers : List Caller) (slot : Option Version) → is_free_use (kept_from keeper callers slot) ≡ not (is_needed (begins callers) slot)
kept_spare keeper [] slot = refl
kept_spare keeper (caller ∷ callers) slot = grind (arith, kept_spare (suc keeper) callers slot)

-- A slot is free by the callers where it is by their begins.
pub spare_use : (callers : List Caller) (slot : Option Version) → is_free_use (use_of callers slot) ≡ is_spare (begins callers) slot
spare_use callers slot = grind (arith, kept_spare)

-- A slot that isn't ahead of the store is needed where it isn't free.
pub needed_use : (next now : ℕ) (callers : List Caller) (slot : Option Version) → IsWithin next now slot → is_needed (now ∷ begins callers) slot ≡ not (is_free_use (use_of callers slot))
needed_use next now callers slot h = grind (arith, spare_use, is_needed-empty)

-- The slots that are needed, and those that are free, are all.
pub needed_uses : (next now : ℕ) (callers : List Caller) (slots : List (Option Version)) → AllByRecursion (IsWithin next now) slots → count_by (is_needed (now ∷ begins callers)) slots + count_by is_free_use (map (use_of callers) slots) ≡ length slots
needed_uses next now callers [] h = refl
needed_uses next now callers (slot ∷ slots) h = grind (arith, needed_uses next now callers slots h.1, count_cons (is_needed (now ∷ begins callers)) slot slots, count_cons is_free_use (use_of callers slot) (map (use_of callers) slots), needed_use next now callers slot h.0)

-- A place is free by its slot where it is by its slot_use.
pub free_use : (next now : ℕ) (callers : List Caller) (slots : List (Option Version)) (place : ℕ) → AllByRecursion (IsWithin next now) slots → is_free (now ∷ begins callers) slots place ≡ free_at (map (use_of callers) slots) place
free_use next now callers (slot ∷ slots) (suc place) h = free_use next now callers slots place h.1
free_use next now callers slots place h = grind (arith, needed_use)

pub one_no : (b : Bool) → b ≡ false → ◌≡◌ {A = ℕ} (cond b 1 0) 0
one_no b e = ap (λ t. cond t 1 0) e

-- A place that shows an id's row is in the table.
pub has_row_at : (stamp id : ℕ) (slots : List (Option Version)) (place : ℕ) → row_at stamp id slots place ≡ true → has (visible stamp slots) id ≡ true
has_row_at stamp id (slot ∷ slots) (suc place) h = grind (arith, has_row_at stamp id slots place h)
has_row_at stamp id slots place h = grind (arith)

-- A slot that shows a row holds a version.
pub row_version : (stamp id : ℕ) (slots : List (Option Version)) (place : ℕ) → row_at stamp id slots place ≡ true → (version : Version) × (slice_get slots place ≡ Some (Some version))
row_version stamp id [] place at = absurd (cc)
row_version stamp id (None ∷ slots) zero at = absurd (cc)
row_version stamp id (Some version ∷ slots) zero at = (version, refl)
row_version stamp id (slot ∷ slots) (suc place) at = row_version stamp id slots place at

-- Where no place shows the id's row it isn't in the table.
pub has_nowhere : (stamp id : ℕ) (slots : List (Option Version)) → ((k : ℕ) → k < length slots → row_at stamp id slots k ≡ false) → has (visible stamp slots) id ≡ false
has_nowhere stamp id [] h = refl
has_nowhere stamp id (slot ∷ slots) h = let first = h zero (omega arith) in grind (arith, has_nowhere stamp id slots (λ k l. h (suc k) (omega arith)))
