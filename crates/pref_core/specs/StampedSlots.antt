-- No public contract cites this.
-- Slots, and the stamp at which the table is.
use Rattle.std.specs.Prelude.{◌≡◌, ◌≤◌, ℕ, List, Option, None, false, get_or, is_some}
use Rattle.pref_core.specs.declared.store.version.Version.{Version}

pub record StampedSlots : Type 0 where
  pub slots : List (Option Version)
  pub stamp : ℕ

-- no slot from this place on holds a version
abbrev pub AreUnused : ℕ → List (Option Version) → Type 0
AreUnused used slots = (place : ℕ) → used ≤ place → is_some (get_or slots place None) ≡ false
