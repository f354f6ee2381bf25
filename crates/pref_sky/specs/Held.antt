-- No public contract cites this.
-- Entries that were held already when others come, and the levels that they were of.
use Rattle.std.specs.Prelude.{◌≡◌, ◌<◌, ◌≤◌, ◌-◌, ◌⊎◌, Bool, true, false, ℕ, List, get_or, length}
use Rattle.pref_sky.specs.Items.{entry_at}
use Rattle.pref_sky.specs.Members.{Among}
use Rattle.pref_sky.specs.OwnOrders.{comes_after}
use Rattle.pref_sky.specs.declared.entry.Entry.{Entry}

-- marks of entries by their places, 0 of a new one: of one that was held already its level, from 1 on to the cut. So many levels less one are above it, and none that was of its level or of one below is over it
pub record AreHeld (over : Entry → Entry → Bool) (cut : ℕ) (mark : ℕ → ℕ) (all : List Entry) : Type 0 where
  pub within : (p : ℕ) → p < length all → mark p ≤ cut
  pub after : (p : ℕ) → p < length all → comes_after over all (mark p - 1) (entry_at all p) ≡ true
  pub apart : (p q : ℕ) → p < length all → q < length all → 0 < mark p → mark p ≤ mark q → over (entry_at all q) (entry_at all p) ≡ false

-- the level of an entry that is one of those that were held, or 0
abbrev pub IsTakenOver : (Entry → ℕ) → List Entry → Entry → ℕ → Type 0
IsTakenOver level held e n = (n ≡ 0) ⊎ (Among e held × (n ≡ level e))

-- such levels of the entries of a list
abbrev pub AreTakenOver : (Entry → ℕ) → List Entry → List Entry → List ℕ → Type 0
AreTakenOver level held all found = (p : ℕ) → p < length all → IsTakenOver level held (entry_at all p) (get_or found p 0)
