-- No public contract cites this.
-- The position of each slot in an order of all slots: the free ones first, then those with a row of the table, then those of ended versions, by the first caller
-- whose open query needs them.
-- Two lists, each the other's inverse, are the sparse sets of (Briggs, Torczon 1993).
use Rattle.std.specs.Prelude.{◌≡◌, ℕ, zero, suc, ◌+◌, ◌-◌, ◌<◌, ◌≤◌, ◌==◌, List, [], ◌∷◌, map, length, Bool, true, false, nat_lt, not, ◌&&◌, Option, Some, None, is_some, slice_index, slice_get, slice_set, ◌⊎◌, if◌then◌else◌}
use Rattle.std.specs.List.{count_by}
use Rattle.std.specs.Option.{option_to_list}
use Rattle.pref_core.specs.declared.store.version.Version.{Version}
use Rattle.pref_core.specs.declared.store.caller.Caller.{Caller}
use Rattle.pref_core.specs.declared.store.slot_sets.SlotUse.{SlotUse}
use Rattle.pref_core.specs.declared.store.slot_sets.SlotUse.TheVariants.{Free, Live, Ended}
use Rattle.pref_core.specs.Slots.{is_needed}

-- the uses in their order
abbrev pub number_of : SlotUse → ℕ
number_of Free = 0
number_of Live = 1
number_of (Ended keeper) = suc (suc keeper)

abbrev pub numbered : ℕ → SlotUse
numbered zero = Free
numbered (suc zero) = Live
numbered (suc (suc keeper)) = Ended keeper

-- the number of the first of these bounds that a position is below
abbrev pub number_at : List ℕ → ℕ → ℕ
number_at [] position = 0
number_at (bound ∷ bounds) position = if nat_lt position bound then 0 else suc (number_at bounds position)

-- the use of a position
abbrev pub use_at : List ℕ → ℕ → SlotUse
use_at bounds position = numbered (number_at bounds position)

abbrev pub is_free_use : SlotUse → Bool
is_free_use Free = true
is_free_use Live = false
is_free_use (Ended keeper) = false

abbrev pub is_kept_by : ℕ → SlotUse → Bool
is_kept_by keeper Free = false
is_kept_by keeper Live = false
is_kept_by keeper (Ended other) = other == keeper

-- whether there is a place of this number, and it is free
abbrev pub free_at : List SlotUse → ℕ → Bool
free_at uses place = elim (slice_get uses place) [ None ↦ false | Some slot_use ↦ is_free_use slot_use ]

-- each place is once in the order, at its position
pub record IsInverse (order positions : List ℕ) : Type 0 where
  pub long : length positions ≡ length order
  pub places : (i : ℕ) → i < length order → slice_index order i < length order
  pub there : (i : ℕ) → i < length order → slice_index positions (slice_index order i) ≡ i
  pub within : (p : ℕ) → p < length order → slice_index positions p < length order
  pub back : (p : ℕ) → p < length order → slice_index order (slice_index positions p) ≡ p

-- and the positions of each use are up to its bound
pub record IsArranged (order positions bounds : List ℕ) : Type 0 where
  pub inverse : IsInverse order positions
  pub few : length order ≤ 65536
  pub bounded : length bounds ≡ 10
  pub ascending : (i j : ℕ) → i ≤ j → j < 10 → slice_index bounds i ≤ slice_index bounds j
  pub inside : (i : ℕ) → i < 10 → slice_index bounds i ≤ length order
  pub counted : count_by is_free_use (map (use_at bounds) positions) ≡ slice_index bounds 0

-- the place at a position goes to another one, and the place there to its position
abbrev pub moved_order : List ℕ → List ℕ → ℕ → ℕ → List ℕ
moved_order order positions place to = slice_set (slice_set order (slice_index positions place) (slice_index order to)) to place

abbrev pub moved_positions : List ℕ → List ℕ → ℕ → ℕ → List ℕ
moved_positions order positions place to = slice_set (slice_set positions place to) (slice_index order to) (slice_index positions place)

-- the first of these callers whose open query needs a slot keeps it, and it is free where there is none
abbrev pub kept_from : ℕ → List Caller → Option Version → SlotUse
kept_from keeper [] slot = Free
kept_from keeper (caller ∷ callers) slot = if is_needed (option_to_list caller.at_begin) slot then Ended keeper else kept_from (suc keeper) callers slot

-- what a slot is used for
abbrev pub use_of : List Caller → Option Version → SlotUse
use_of callers None = Free
use_of callers (Some version) = elim version.death [ None ↦ Live | Some death ↦ kept_from 0 callers (Some version) ]

-- whether a slot is free, by the stamps at which open queries began
abbrev pub is_spare : List ℕ → Option Version → Bool
is_spare begins None = true
is_spare begins (Some version) = is_some version.death && not (is_needed begins (Some version))

-- where the query of a caller ends, what it kept is of another use, and all else as it was
abbrev pub MayBecome : ℕ → SlotUse → SlotUse → Type 0
MayBecome keeper before after = (is_kept_by keeper after ≡ false) × ((before ≡ after) ⊎ (before ≡ Ended keeper))

-- the numbers below the capacity, from the first one on round to it
abbrev pub rotated : ℕ → ℕ → ℕ → ℕ
rotated capacity first at = if nat_lt at (capacity - first) then first + at else at - (capacity - first)
