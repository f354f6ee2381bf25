-- Chains: weak orders, and lists in an order. A list of keys is one, and so are the columns of groups. (this project)
use Rattle.std.specs.Prelude.{⊤, ◌≡◌, Bool, true, false, not, ◌&&◌, ◌||◌, ℕ, ℤ, List, [], ◌∷◌}
use Rattle.pref_term.specs.Chains.{by_chain}
use Rattle.pref_term.specs.Extension.{group_keys}
use Rattle.pref_term.specs.Order.{IsStrictOrder, is_better}
use Rattle.pref_term.specs.declared.key.Key.{Key}
use Rattle.pref_sky.specs.Members.{Among}
use Rattle.pref_sky.specs.declared.entry.Entry.{Entry}

-- a chain is a weak order: what is better than another is better than any third, or that third is better than the other
pub record IsChain {E : Type 0} (better : E → E → Bool) : Type 0 where
  pub strict : IsStrictOrder better
  pub between : (a b c : E) → better a c ≡ true → better a b ≡ false → better b c ≡ true

-- neither is better
abbrev pub are_level : {E : Type 0} → (E → E → Bool) → E → E → Bool
are_level better a b = not (better a b) && not (better b a)

-- by the first, and where that sees no difference by the second
abbrev pub in_turn : {E : Type 0} → (E → E → Bool) → (E → E → Bool) → E → E → Bool
in_turn first second a b = first a b || (are_level first a b && second a b)

-- a comes before b by the first chain, then the second, then the third
abbrev pub comes_first : {E : Type 0} → (E → E → Bool) → (E → E → Bool) → (E → E → Bool) → E → E → Bool
comes_first first second third = in_turn first (in_turn second third)

-- each stands before all later ones
abbrev pub IsInOrder : {E : Type 0} → (E → E → Bool) → List E → Type 0
IsInOrder before [] = ⊤
IsInOrder {E = E} before (e ∷ others) = ((x : E) → Among x others → before e x ≡ true) × IsInOrder before others

-- by a list of keys
abbrev pub better_in : List Key → List ℤ → List ℤ → Bool
better_in keys a b = is_better (by_chain keys a b)

-- by the columns of groups: by the first in which the cells differ, of which the smaller one is earlier
unfoldable pub earlier_in : List ℕ → List ℤ → List ℤ → Bool
earlier_in columns = better_in (group_keys columns)

-- of entries, by their rows
abbrev pub by_row : (List ℤ → List ℤ → Bool) → Entry → Entry → Bool
by_row better a b = better a.row b.row
