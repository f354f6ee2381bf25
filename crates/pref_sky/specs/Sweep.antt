-- No public contract cites this.
-- One pass over entries in order: three chains that lead their order, and what is kept of each level so far, as far as later entries are compared with it.
use Rattle.std.specs.Prelude.{◌≡◌, ◌<◌, ◌≤◌, get_or, Bool, true, false, not, ◌&&◌, ◌||◌, ℕ, suc, List, All, ◌⊎◌, length}
use Rattle.pref_term.specs.Order.{IsStrictOrder, StandAlike}
use Rattle.pref_sky.specs.OwnOrders.{comes_after}
use Rattle.pref_sky.specs.Items.{entry_at}
use Rattle.pref_sky.specs.Members.{Among, SameMembers}
use Rattle.pref_sky.specs.Chains.{IsChain, IsInOrder, are_level, comes_first}
use Rattle.pref_sky.specs.Steps.{IsCovered, stands_before}
use Rattle.pref_sky.specs.declared.entry.Entry.{Entry}
use Rattle.pref_sky.specs.declared.item.Item.{Item}
use Rattle.pref_sky.specs.declared.level.Level.{Level}

-- no worse in each of three chains, and better in one of them
abbrev pub is_ahead : {E : Type 0} → (E → E → Bool) → (E → E → Bool) → (E → E → Bool) → E → E → Bool
is_ahead first second third a b = (not (first b a) && (not (second b a) && not (third b a))) && (first a b || (second a b || third a b))

-- level in all three
abbrev pub are_level_in : {E : Type 0} → (E → E → Bool) → (E → E → Bool) → (E → E → Bool) → E → E → Bool
are_level_in first second third a b = are_level first a b && (are_level second a b && are_level third a b)

-- three chains lead the order of some entries: what is ahead in them dominates, and what dominates is ahead in them, or level in all
pub record AreLed {E : Type 0} (over first second third : E → E → Bool) (all : List E) : Type 0 where
  pub first_is_chain : IsChain first
  pub second_is_chain : IsChain second
  pub third_is_chain : IsChain third
  pub ahead : (a b : E) → Among a all → Among b all → is_ahead first second third a b ≡ true → over a b ≡ true
  pub decided : (a b : E) → Among a all → Among b all → over a b ≡ true → (is_ahead first second third a b || are_level_in first second third a b) ≡ true

-- entries in order: none dominates an earlier one, and none comes before an earlier one by the first of the leading chains in which they differ
pub record AreSwept (over first second third : Entry → Entry → Bool) (all : List Entry) : Type 0 where
  pub strict : IsStrictOrder over
  pub led : AreLed over first second third all
  pub in_order : (j p : ℕ) → j ≤ p → p < length all → over (entry_at all p) (entry_at all j) ≡ false
  pub in_lead : (j p : ℕ) → j ≤ p → p < length all → comes_first first second third (entry_at all p) (entry_at all j) ≡ false

-- each entry before a place comes before the one at another by the leading chains; this stands there or behind
pub record IsClass (first second third : Entry → Entry → Bool) (all : List Entry) (class i : ℕ) : Type 0 where
  pub begins : class ≤ i
  pub apart : (j : ℕ) → j < class → comes_first first second third (entry_at all j) (entry_at all i) ≡ true

-- so many levels are above an entry: as many entries, each over the next, stand over it, and no more, or it is below the cut
pub record AreAbove {E : Type 0} (over : E → E → Bool) (cut : ℕ) (all : List E) (e : E) (n : ℕ) : Type 0 where
  pub within : n ≤ cut
  pub after : comes_after over all n e ≡ true
  pub no_more : n < cut → comes_after over all (suc n) e ≡ false

-- n levels are above an entry, and no more
abbrev pub is_at : {E : Type 0} → (E → E → Bool) → List E → ℕ → E → Bool
is_at over all n e = comes_after over all n e && not (comes_after over all (suc n) e)

-- an entry before this place has n levels above it
abbrev pub IsMember : (Entry → Entry → Bool) → List Entry → (i n place : ℕ) → Type 0
IsMember over all i n place = (place < i) × (is_at over all n (entry_at all place) ≡ true)

-- kept in the class of a level
abbrev pub IsKept : Item → Level → Type 0
IsKept x kept = Among x kept.run.items ⊎ Among x kept.fresh.items

-- one that an entry with this mark is compared with: a new one with all that are kept, another with the fresh ones
abbrev pub IsAskedOf : ℕ → Item → Level → Type 0
IsAskedOf mark x kept = Among x kept.fresh.items ⊎ ((mark ≡ 0) × Among x kept.run.items)

-- an entry is alike to one that is kept in the class
abbrev pub HasAlike : (Entry → Entry → Bool) → List Entry → Level → Entry → Type 0
HasAlike over all kept e = (x : Item) × IsKept x kept × StandAlike over (entry_at all x.place) e

-- what is kept stands for the entries before a place that have n levels above them.
-- Steps: each of these is no better than one of the steps in the second and third chain; they stand from the best in the second to the best in the third.
-- The class: of the entries from it on, each is alike to one that is kept in it. In the run are those alone that were held already, and of this level.
pub record StandsFor (over second third : Entry → Entry → Bool) (rule : Entry → ℕ) (mark : ℕ → ℕ) (all : List Entry) (class i n : ℕ) (kept : Level) : Type 0 where
  pub steps_within : (p : ℕ) → Among p kept.steps.items → IsMember over all i n p
  pub steps_cover : (j : ℕ) → IsMember over all i n j → IsCovered second third all kept.steps.items (entry_at all j)
  pub in_order : IsInOrder (stands_before second third all) kept.steps.items
  pub kept_within : (x : Item) → IsKept x kept → IsMember over all i n x.place × (x.signature ≡ rule (entry_at all x.place))
  pub run_held : (x : Item) → Among x kept.run.items → mark x.place ≡ suc n
  pub kept_cover : (j : ℕ) → class ≤ j → IsMember over all i n j → (kept.class ≡ class) × HasAlike over all kept (entry_at all j)

-- what is kept are places of entries
pub record ArePlaces (all : List Entry) (kept : Level) : Type 0 where
  pub steps : All (λ p. p < length all) kept.steps.items
  pub run : All (λ (x : Item). x.place < length all) kept.run.items
  pub fresh : All (λ (x : Item). x.place < length all) kept.fresh.items

-- the same, but for the order of what is kept in the class
pub record IsSameLevel (old new : Level) : Type 0 where
  pub steps : new.steps.items ≡ old.steps.items
  pub class : new.class ≡ old.class
  pub run : SameMembers old.run.items new.run.items
  pub fresh : SameMembers old.fresh.items new.fresh.items

-- as a class goes on or begins: the same where it goes on, and nothing of another class
pub record IsOfClass (old : Level) (class : ℕ) (new : Level) : Type 0 where
  pub steps : new.steps.items ≡ old.steps.items
  pub class_is : new.class ≡ class
  pub within : (x : Item) → IsKept x new → IsKept x old
  pub run : (x : Item) → Among x new.run.items → Among x old.run.items
  pub stays : old.class ≡ class → (x : Item) → IsKept x old → IsKept x new

-- the same steps, and one more of a class that goes on or begins: it is in the run only where it was held already, and of this level
pub record IsOneMore (mark : ℕ → ℕ) (n : ℕ) (old : Level) (class : ℕ) (x : Item) (new : Level) : Type 0 where
  pub steps : new.steps.items ≡ old.steps.items
  pub class_is : new.class ≡ class
  pub there : IsKept x new
  pub within : (y : Item) → IsKept y new → IsKept y old ⊎ (y ≡ x)
  pub run : (y : Item) → Among y new.run.items → Among y old.run.items ⊎ (mark y.place ≡ suc n)
  pub stays : old.class ≡ class → (y : Item) → IsKept y old → IsKept y new

-- what is known before the i-th entry, of this class, in a sweep that goes up to a cut: what is kept stands for each level so far, and none is left out
pub record HasSwept (over second third : Entry → Entry → Bool) (rule : Entry → ℕ) (mark : ℕ → ℕ) (cut : ℕ) (all : List Entry) (i class : ℕ) (levels : List Level) : Type 0 where
  pub within : length levels ≤ cut
  pub stand : (n : ℕ) (kept : Level) → n < length levels → kept ≡ get_or levels n kept → StandsFor over second third rule mark all class i n kept
  pub known : (j n : ℕ) → n < cut → IsMember over all i n j → n < length levels
