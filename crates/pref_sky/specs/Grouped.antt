-- No public contract cites this.
-- Entries with their levels, group by group and in each level by level; and how many stand in front of an entry's group, and of its level there.
use Rattle.std.specs.Prelude.{◌≡◌, ◌<◌, Bool, not, nat_lt, ℕ, List, [], length, get_or, map, All}
use Rattle.std.specs.List.{count_by}
use Rattle.std.specs.List.Sorted.{IsPermutation}
use Rattle.pref_sky.specs.Members.{Among}
use Rattle.pref_sky.specs.Chains.{IsInOrder, earlier_in, in_turn}
use Rattle.pref_sky.specs.declared.entry.Ranked.{Ranked}
use Rattle.pref_sky.specs.declared.grouped.InFront.{InFront}
use Rattle.pref_sky.specs.declared.grouped.Placed.{Placed}

-- an entry's group is earlier than another's
abbrev pub has_earlier_group : List ℕ → Ranked → Ranked → Bool
has_earlier_group columns a b = earlier_in columns a.row b.row

-- by group, then by level
abbrev pub stands_before : List ℕ → Ranked → Ranked → Bool
stands_before columns = in_turn (has_earlier_group columns) (λ a b. nat_lt a.level b.level)

abbrev pub entries : List Placed → List Ranked
entries = map (λ p. p.entry.now)

abbrev pub entry_at : List Placed → ℕ → Ranked
entry_at placed at = get_or (entries placed) at (record { level = 0; id = 0; row = [] })

-- the entries of a list in this order, each with its place
pub record AreGrouped (columns : List ℕ) (ranked : List Ranked) (placed : List Placed) : Type 0 where
  pub moved : IsPermutation ranked (entries placed)
  pub in_order : IsInOrder (λ a b. not (stands_before columns b a)) (entries placed)
  pub at_place : All (λ p. (p.place < length ranked) × (get_or ranked p.place p.entry.now ≡ p.entry.now)) placed
  pub all : (place : ℕ) → place < length ranked → Among place (map (λ p. p.place) placed)

-- what stands in front of an entry, of which these are all
pub record IsCounted (columns : List ℕ) (all : List Ranked) (entry : Ranked) (front : InFront) : Type 0 where
  pub group : front.group ≡ count_by (λ other. has_earlier_group columns other entry) all
  pub level : front.level ≡ count_by (λ other. stands_before columns other entry) all
