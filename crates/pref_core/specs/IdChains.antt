-- No public contract cites this.
-- Rows of one home, each of which leads to the one with the next smaller id.
use Rattle.std.specs.Prelude.{◌≡◌, ℕ, ◌+◌, ◌-◌, ◌%◌, ◌^◌, ◌<◌, ◌≤◌, List, map, length, Bool, false, nat_lt, Option, Some, None, slice_get, slice_index, ◌⊎◌, if◌then◌else◌}
use Rattle.pref_core.specs.declared.store.version.Version.{Version}
use Rattle.pref_core.specs.Slots.{is_visible}

-- the home of an id, among this many slots
abbrev pub home_of : ℕ → ℕ → ℕ
home_of capacity id = (id - 1) % capacity

-- the id of the row that a slot shows at the stamp
abbrev pub shown : ℕ → Option Version → Option ℕ
shown stamp None = None
shown stamp (Some version) = if is_visible stamp version then Some version.id else None

-- the ids that the slots show
abbrev pub ids_of : ℕ → List (Option Version) → List (Option ℕ)
ids_of stamp slots = map (shown stamp) slots

-- the id at a place, where a row is there
abbrev pub id_at : List (Option ℕ) → ℕ → Option ℕ
id_at ids place = elim (slice_get ids place) [ None ↦ None | Some id ↦ id ]

-- whether a row of a greater id is there
abbrev pub is_above : ℕ → Option ℕ → Bool
is_above id None = false
is_above id (Some other) = nat_lt id other

-- no id is at two places, and none is as great as the limit
pub record AreIds (limit : ℕ) (ids : ℕ → Option ℕ) : Type 0 where
  pub once : (p q id : ℕ) → ids p ≡ Some id → ids q ≡ Some id → p ≡ q
  pub small : (place id : ℕ) → ids place ≡ Some id → id < limit

-- how far there is still to go from a row of this id
abbrev pub rank : Option ℕ → ℕ
rank None = 0
rank (Some id) = id + 1

-- a link to the row with the greatest of the home's ids below the bound, or to no place where none is below it
pub record LeadsTo (capacity : ℕ) (homes : ℕ → ℕ) (ids : ℕ → Option ℕ) (home bound link : ℕ) : Type 0 where
  pub same : (top : ℕ) → ids link ≡ Some top → homes top ≡ home
  pub less : rank (ids link) ≤ bound
  pub most : (place id : ℕ) → ids place ≡ Some id → homes id ≡ home → id < bound → id < rank (ids link)
  pub past : ids link ≡ None → capacity ≤ link

-- what has a link: a place with a row, whose id is the bound of what comes behind it, or a home
abbrev pub IsNode : ℕ → ℕ → (ℕ → ℕ) → (ℕ → Option ℕ) → ℕ → ℕ → ℕ → Type 0
IsNode limit capacity homes ids home bound node = ((node ≡ capacity + home) × (bound ≡ limit)) ⊎ ((ids node ≡ Some bound) × (homes bound ≡ home))

-- each link leads to the next row
abbrev pub AreLinked : ℕ → ℕ → (ℕ → ℕ) → (ℕ → Option ℕ) → (ℕ → ℕ) → Type 0
AreLinked limit capacity homes ids links = (home bound node : ℕ) → home < capacity → IsNode limit capacity homes ids home bound node → LeadsTo capacity homes ids home bound (links node)

-- a node before an id
pub record IsOnWay (limit capacity : ℕ) (homes : ℕ → ℕ) (ids : ℕ → Option ℕ) (id node : ℕ) : Type 0 where
  pub bound : ℕ
  pub is : IsNode limit capacity homes ids (homes id) bound node
  pub above : id < bound

-- the last node before an id, where it is or would be
pub record IsBefore (limit capacity : ℕ) (homes : ℕ → ℕ) (ids : ℕ → Option ℕ) (links : ℕ → ℕ) (id node : ℕ) : Type 0 where
  pub way : IsOnWay limit capacity homes ids id node
  pub last : is_above id (ids (links node)) ≡ false

-- the links of all slots, and behind them those of all homes
pub record AreLinks (capacity : ℕ) (ids : List (Option ℕ)) (links : List ℕ) : Type 0 where
  pub size : length ids ≡ capacity
  pub long : length links ≡ capacity + capacity
  pub linked : AreLinked (2 ^ 64) capacity (home_of capacity) (id_at ids) (slice_index links)

-- the ids of the opening rows: 1, 2, .. from the first place on
pub record AreOpening (capacity rows : ℕ) (ids : List (Option ℕ)) : Type 0 where
  pub size : length ids ≡ capacity
  pub each : (place : ℕ) → id_at ids place ≡ (if nat_lt place rows then Some (place + 1) else None)

-- the link of a home as a store is opened
abbrev pub opening_link : ℕ → ℕ → ℕ → ℕ
opening_link capacity rows home = if nat_lt home rows then home else capacity
