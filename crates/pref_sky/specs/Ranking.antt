-- No public contract cites this.
-- Entries of a list with their levels, and where they stand in an answer.
use Rattle.std.specs.Prelude.{nat_lt, Bool, ℕ, List, filter, map}
use Rattle.std.specs.List.Sorted.{IsPermutation, IsSortedBy}
use Rattle.std.specs.Ordering.{is_lt, nat_cmp, ordering_then}
use Rattle.pref_sky.specs.Levels.{at_level}
use Rattle.pref_sky.specs.declared.entry.Entry.{Entry}
use Rattle.pref_sky.specs.declared.entry.Ranked.{Ranked}
use Rattle.pref_sky.specs.declared.merging.Marked.{Marked}

-- an entry with its level
abbrev pub with_level : (Entry → ℕ) → Entry → Ranked
with_level level e = at_level (level e) e

-- those of some entries that have a level, from 1 on, each with it
abbrev pub leveled : (Entry → ℕ) → List Entry → List Ranked
leveled level entries = map (with_level level) (filter (λ e. nat_lt 0 (level e)) entries)

-- by level, then id
abbrev pub ranks_before : Ranked → Ranked → Bool
ranks_before r s = is_lt (ordering_then (nat_cmp r.level s.level) (nat_cmp r.id s.id))

-- some ranked entries, in order of level, then id
pub record AreInRanks (some sorted : List Ranked) : Type 0 where
  pub moved : IsPermutation some sorted
  pub in_order : IsSortedBy ranks_before sorted

-- entries with the levels that they are marked with
abbrev pub marks : List Marked → List Ranked
marks = map (λ m. at_level m.level m.entry.now)
