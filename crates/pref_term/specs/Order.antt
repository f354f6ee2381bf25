-- Strict orders of rows, as tests. (Börzsönyi, Kossmann, Stocker 2001)
use Rattle.std.specs.Prelude.{◌≡◌, Bool, true, false, List, ℤ}
use Rattle.pref_term.specs.declared.relation.Relation.{Relation}
use Rattle.pref_term.specs.declared.relation.Relation.TheVariants.{Better, Worse, Same, Neither}

-- nothing dominates itself, and what dominates something dominates all that this dominates
pub record IsStrictOrder {E : Type 0} (over : E → E → Bool) : Type 0 where
  pub irreflexive : (a : E) → over a a ≡ false
  pub transitive : (a b c : E) → over a b ≡ true → over b c ≡ true → over a c ≡ true

-- what dominates one of the two dominates the other, and they dominate the same
pub record StandAlike {E : Type 0} (over : E → E → Bool) (a b : E) : Type 0 where
  pub above : (c : E) → over c a ≡ over c b
  pub below : (c : E) → over a c ≡ over b c

-- what a question says of two rows: `over` that the first dominates the second; `twins` that they are twins, of which one is kept
pub record RowOrder : Type 0 where
  pub over : List ℤ → List ℤ → Bool
  pub twin : List ℤ → List ℤ → Bool

-- `over` is a strict order, and twins are alike in it; being twins is symmetric and transitive
pub record IsRowOrder (order : RowOrder) : Type 0 where
  pub strict : IsStrictOrder order.over
  pub symmetric : (a b : List ℤ) → order.twin a b ≡ true → order.twin b a ≡ true
  pub transitive : (a b c : List ℤ) → order.twin a b ≡ true → order.twin b c ≡ true → order.twin a c ≡ true
  pub alike : (a b : List ℤ) → order.twin a b ≡ true → StandAlike order.over a b

-- what a comparison says of its first row
abbrev pub is_better : Relation → Bool
is_better Better = true
is_better Worse = false
is_better Same = false
is_better Neither = false

-- the second row is better
abbrev pub is_worse : Relation → Bool
is_worse Better = false
is_worse Worse = true
is_worse Same = false
is_worse Neither = false

-- the rows score alike
abbrev pub is_same : Relation → Bool
is_same Better = false
is_same Worse = false
is_same Same = true
is_same Neither = false
