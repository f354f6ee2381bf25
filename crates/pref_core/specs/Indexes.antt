-- An index from id to slot, beside a store. (this project)
use Rattle.std.specs.Prelude.{◌≡◌, ℕ, suc, List, [], ◌∷◌, Bool, true, false, ◌&&◌, ◌==◌, cond, nat_eq, Option, Some, None, slice_get}
use Rattle.std.specs.Map.{lookup}
use Rattle.pref_core.specs.declared.store.version.Version.{Version}
use Rattle.pref_core.specs.declared.call.Outcome.{Outcome}
use Rattle.pref_core.specs.declared.call.Outcome.TheVariants.{Added}
use Rattle.pref_core.specs.declared.changes.Change.{Change}
use Rattle.pref_core.specs.declared.changes.Change.TheVariants.{Add, Set, Remove}
use Rattle.pref_core.specs.Table.{has}
use Rattle.pref_core.specs.Slots.{Contents, is_visible, visible}

-- the slot that an index gives for an id
abbrev pub slot_of : List (ℕ × ℕ) → ℕ → Option ℕ
slot_of index id = lookup (nat_eq id) index

-- the index, with this slot for this id, or with none
abbrev pub Points : List (ℕ × ℕ) → ℕ → Option ℕ → List (ℕ × ℕ) → Type 0
Points old id slot new = (other : ℕ) → slot_of new other ≡ cond (nat_eq id other) slot (slot_of old other)

-- whether the slot shows the row of this id at the stamp
abbrev pub is_row : ℕ → ℕ → Option Version → Bool
is_row stamp id None = false
is_row stamp id (Some version) = (version.id == id) && is_visible stamp version

-- the same, of the slot at a place
abbrev pub row_at : ℕ → ℕ → List (Option Version) → ℕ → Bool
row_at stamp id slots place = elim (slice_get slots place) [ None ↦ false | Some slot ↦ is_row stamp id slot ]

-- the place of the id's row, or that there is none
abbrev pub IsPlaceOf : ℕ → ℕ → List (Option Version) → Option ℕ → Type 0
IsPlaceOf stamp id slots None = has (visible stamp slots) id ≡ false
IsPlaceOf stamp id slots (Some place) = row_at stamp id slots place ≡ true

-- An index is a store's where it gives for each row of the table its slot, and for other ids none.
abbrev pub IsIndexOf : Contents → List (ℕ × ℕ) → Type 0
IsIndexOf contents index = (id : ℕ) → IsPlaceOf contents.stamp id contents.slots (slot_of index id)

-- what an index gives for an id once these ids, one after the other, were put with their slots, or taken out where they have none
abbrev pub given : List (ℕ × Option ℕ) → ℕ → Option ℕ → Option ℕ
given [] id found = found
given (placed ∷ rest) id found = given rest id (cond (nat_eq placed.0 id) placed.1 found)

-- the index after that
abbrev pub PointsAll : List (ℕ × ℕ) → List (ℕ × Option ℕ) → List (ℕ × ℕ) → Type 0
PointsAll old placed new = (id : ℕ) → slot_of new id ≡ given placed id (slot_of old id)

-- whether a row is added
abbrev pub adds : Outcome → Bool
adds (Added id) = true
adds outcome = false

-- the rows that these changes begin or remove, each with its slot of those of all rows that they begin, or with none; added ones have the ids from this one on
abbrev pub placed_rows : ℕ → List Change → List ℕ → List (ℕ × Option ℕ)
placed_rows id (Add row ∷ rest) (slot ∷ slots) = (id, Some slot) ∷ placed_rows (suc id) rest slots
placed_rows id (Set other row ∷ rest) (slot ∷ slots) = (other, Some slot) ∷ placed_rows id rest slots
placed_rows id (Remove other ∷ rest) slots = (other, None) ∷ placed_rows id rest slots
placed_rows id changes slots = []
