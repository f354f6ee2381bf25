-- No public contract cites this.
-- What a store keeps beside its slots, so that no change looks through them.
use Rattle.std.specs.Prelude.{◌≡◌, ◌+◌, ◌^◌, ◌<◌, ◌≤◌, ◌&&◌, ◌||◌, ℕ, suc, List, [], ◌∷◌, ◌++◌, map, length, take, Bool, true, false, not, Option, Some, None, is_some, option_map, slice_get, slice_set, Result, MatchResult}
use Rattle.std.specs.List.{count_by, AllByRecursion}
use Rattle.pref_core.specs.declared.store.version.Version.{Version}
use Rattle.pref_core.specs.declared.call.Call.{Call}
use Rattle.pref_core.specs.declared.changes.Change.{Change}
use Rattle.pref_core.specs.declared.changes.Change.TheVariants.{Add, Set, Remove}
use Rattle.pref_core.specs.declared.store.slot_sets.SlotUse.{SlotUse}
use Rattle.pref_sky.specs.declared.entry.Entry.{Entry}
use Rattle.pref_core.specs.Rows.{Row}
use Rattle.pref_core.specs.Table.{Line, among, has}
use Rattle.pref_core.specs.State.{State, missing, success_outcome, is_formed}
use Rattle.pref_core.specs.Slots.{Contents, StandsFor, IsWithin, begins, new_version, visible, is_needed}
use Rattle.pref_core.specs.Operations.{close, is_free, outcome_at, placed}
use Rattle.pref_core.specs.Bounds.{IsBounded}
use Rattle.pref_core.specs.SlotSets.{is_free_use, is_spare, free_at, use_of}
use Rattle.pref_core.specs.IdChains.{ids_of, id_at, AreIds, AreLinks}
use Rattle.pref_core.specs.Indexes.{row_at}

-- A store's contents represent a state.
pub record IsKept (contents : Contents) : Type 0 where
  pub bounded : IsBounded contents
  pub state : State
  pub stands : StandsFor contents state

-- what its slots are used for
abbrev pub uses_of : Contents → List SlotUse
uses_of contents = map (use_of contents.callers) contents.slots

-- At each step of a commit no version is ahead, and the lists beside the slots go along with them.
pub record IsTracked (contents : Contents) (uses : List SlotUse) (links : List ℕ) : Type 0 where
  pub seats : length contents.callers ≤ 8
  pub within : AllByRecursion (IsWithin contents.next_id contents.stamp) contents.slots
  pub listed : uses ≡ uses_of contents
  pub linked : AreLinks (length contents.slots) (ids_of contents.stamp contents.slots) links
  pub ids : AreIds (2 ^ 64) (id_at (ids_of contents.stamp contents.slots))

-- the contents with these slots
abbrev pub with_slots : List (Option Version) → Contents → Contents
with_slots slots contents = record { slots = slots; stamp = contents.stamp; next_id = contents.next_id; callers = contents.callers }

-- the row at a place, where there is one
abbrev pub row_in : List (Option Version) → Option ℕ → Option Row
row_in slots None = None
row_in slots (Some place) = elim (slice_get slots place) [ None ↦ None | Some slot ↦ option_map (λ (version : Version). version.row) slot ]

-- the slot of this place, as it is after a commit that ends these ids, is free
abbrev pub frees_at : List ℕ → List ℕ → ℕ → List (Option Version) → ℕ → Bool
frees_at begins ids stamp slots place = elim (slice_get slots place) [ None ↦ false | Some slot ↦ is_spare begins (close ids stamp slot) ]

-- a place that can be used once rows ended: it is free, or they leave it free
abbrev pub is_open : List SlotUse → List ℕ → ℕ → Bool
is_open uses freed place = free_at uses place || among freed place

-- The rows of these ids are there, and these slots are left free when they end.
pub record IsFreed (contents : Contents) (ids freed : List ℕ) : Type 0 where
  pub there : missing ids (visible contents.stamp contents.slots) ≡ None
  pub opens : (place : ℕ) → is_free (suc contents.stamp ∷ begins contents.callers) (map (close ids (suc contents.stamp)) contents.slots) place ≡ is_open (uses_of contents) freed place
  pub counted : count_by is_free_use (uses_of contents) + length freed + count_by (is_needed (suc contents.stamp ∷ begins contents.callers)) (map (close ids (suc contents.stamp)) contents.slots) ≡ length contents.slots

-- what a look for the slots that they leave free answers: these, or the first id that the table lacks
abbrev pub FindsFreed : Contents → List ℕ → Result (List ℕ) ℕ → Type 0
FindsFreed contents ids result = MatchResult result (λ freed. IsFreed contents ids freed) (λ id. missing ids (visible contents.stamp contents.slots) ≡ Some id)

-- These are slots for the rows that a change begins, and it succeeds in them.
pub record FitAtOnce (contents : Contents) (call : Call) (slots : List ℕ) : Type 0 where
  pub outcome : success_outcome contents.next_id call ≡ outcome_at contents call
  pub placed : is_some (placed contents call slots (outcome_at contents call)) ≡ true
  pub formed : is_formed call ≡ true

-- A change fits at once, by a look at the next slot alone, and so many slots are used then: a row may be added in one that is free, set in the
-- one where it stands if nothing needs what is there, and removed where it is there.
abbrev pub FitsNext : Contents → List ℕ → ℕ → Change → ℕ → Type 0
FitsNext contents slots used (Add row) after = (place : ℕ) × (slice_get slots used ≡ Some place) × (free_at (uses_of contents) place ≡ true) × (among (take used slots) place ≡ false) × (after ≡ used + 1)
FitsNext contents slots used (Set id row) after = (place : ℕ) × (slice_get slots used ≡ Some place) × (row_at contents.stamp id contents.slots place ≡ true) × ((ids : List ℕ) → among ids id ≡ true → frees_at (begins contents.callers) ids (contents.stamp + 1) contents.slots place ≡ true) × (after ≡ used + 1)
FitsNext contents slots used (Remove id) after = (place : ℕ) × (row_at contents.stamp id contents.slots place ≡ true) × (after ≡ used)

-- each of these places is free, and none comes twice or is one of the earlier ones
abbrev pub are_free : List ℕ → List (Option Version) → List ℕ → List ℕ → Bool
are_free stamps slots earlier [] = true
are_free stamps slots earlier (place ∷ places) = not (among earlier place) && is_free stamps slots place && are_free stamps slots (earlier ++ place ∷ []) places

-- rows whose ids are below a number, are not in the table, and are different
abbrev pub AreFresh : ℕ → List Line → List Entry → Type 0
AreFresh limit table [] = Unit {0}
AreFresh limit table (fresh ∷ rest) = (fresh.id < limit) × (has table fresh.id ≡ false) × (among (map (λ entry. entry.id) rest) fresh.id ≡ false) × AreFresh limit table rest

-- each of these changes sets a row, which stands in its slot
abbrev pub KeepSlots : ℕ → List (Option Version) → List Change → List ℕ → Type 0
KeepSlots stamp slots [] places = Unit {0}
KeepSlots stamp slots (Set id row ∷ changes) (place ∷ places) = (row_at stamp id slots place ≡ true) × KeepSlots stamp slots changes places
KeepSlots stamp slots changes places = ⊥

-- the slots with the rows that these changes set, each in its slot
abbrev pub replaced : ℕ → List Change → List ℕ → List (Option Version) → List (Option Version)
replaced stamp (Set id row ∷ changes) (place ∷ places) slots = replaced stamp changes places (slice_set slots place (new_version stamp (record { id = id; row = row })))
replaced stamp changes places slots = slots
