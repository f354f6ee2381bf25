-- A store that was opened with other room has its rows at the same places.
use Rattle.std.proofs.Common.{◌≡◌, ℕ, zero, suc, true, List, [], ◌∷◌, ◌++◌, length, replicate, ◌-◌, Option, Some, None, refl, sym, ap, ◌∙◌}
use Rattle.std.proofs.lemmas.List.{append-nil}
use Rattle.std.proofs.lemmas.List.Elements.{filter_map-append}
use Rattle.pref_core.specs.declared.store.version.Version.{Version}
use Rattle.pref_core.specs.Indexes.{row_at, slot_of, IsPlaceOf, IsIndexOf}
use Rattle.pref_core.specs.Limits.{Limits}
use Rattle.pref_core.specs.Rows.{Row}
use Rattle.pref_core.specs.Slots.{seen, visible, opening_slots, opening_contents}
use Rattle.pref_core.specs.Table.{has}

module _ (stamp id : ℕ) where
  none_shown : (n : ℕ) → visible stamp (replicate n None) ≡ []
  none_shown zero = refl
  none_shown (suc n) = none_shown n

  rows_shown : (slots : List (Option Version)) (n : ℕ) → visible stamp (slots ++ replicate n None) ≡ visible stamp slots
  rows_shown slots n = filter_map-append (seen stamp) slots (replicate n None) ∙ ap (λ l. visible stamp slots ++ l) (none_shown n) ∙ append-nil (visible stamp slots)

  none_at : (n place : ℕ) → row_at stamp id (replicate n None) place ≡ true → ⊥
  none_at zero place there = absurd (cc)
  none_at (suc n) zero there = absurd (cc)
  none_at (suc n) (suc place) there = none_at n place there

  row_there : (slots : List (Option Version)) (n m place : ℕ) → row_at stamp id (slots ++ replicate n None) place ≡ true → row_at stamp id (slots ++ replicate m None) place ≡ true
  row_there [] n m place there = absurd (none_at n place there)
  row_there (slot ∷ slots) n m zero there = there
  row_there (slot ∷ slots) n m (suc place) there = row_there slots n m place there

  same_place : (slots : List (Option Version)) (n m : ℕ) (found : Option ℕ) → IsPlaceOf stamp id (slots ++ replicate n None) found → IsPlaceOf stamp id (slots ++ replicate m None) found
  same_place slots n m None is = ap (λ l. has l id) (rows_shown slots m ∙ sym (rows_shown slots n)) ∙ is
  same_place slots n m (Some place) is = row_there slots n m place is

pub index_of_other_room : (narrow wide : Limits) (rows : List Row) (index : List (ℕ × ℕ)) → IsIndexOf (opening_contents narrow rows) index → IsIndexOf (opening_contents wide rows) index
index_of_other_room narrow wide rows index is id = same_place (length rows) id (opening_slots 0 rows) (narrow.capacity - length rows) (wide.capacity - length rows) (slot_of index id) (is id)
