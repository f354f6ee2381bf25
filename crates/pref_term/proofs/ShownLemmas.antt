-- What is shown is a text of the grammar with the meaning of what was shown.
use Rattle.pref_term.proofs.Common.{[], ◌≡◌, ℕ, ℤ, pos, negsuc, suc, List, ◌∷◌, map, true, false, refl, ap, arith, unwrap_or}
use Rattle.pref_term.proofs.Common.{FitsSigned, decimal, All, All-head, All-tail, Ok, length, ◌<◌, schema_of, IsWritable, ReadsBelow, all_ascii_digits, digits_value-decimal}
use Rattle.pref_term.proofs.Common.{NumberText, BaseText, low_text, high_text}
use Rattle.pref_term.proofs.Common.{around_text, pos_text, PriorText, one_product, then_product, ProductText, one_factor, then_factor, UnaryText, negated, grouped, based, HeadText, best_head}
use Rattle.pref_term.proofs.Common.{top_level_head, at_least_head, Leaf}
use Rattle.pref_term.proofs.Common.{prior_leaves, product_leaves, unary_leaves, between_text, layered_text, SetText}
use Rattle.pref_term.proofs.Common.{Names, number_value, set_value, column_at, base_meaning, prior_meaning, product_meaning, unary_meaning, Base, low, high, around}
use Rattle.pref_term.proofs.Common.{one_of, Preference, scored, pareto, prior, reverse, between, layered, name_at}
use Rattle.pref_term.proofs.Common.{Mode, Best, TopLevel, AtLeast, column, IsWritableBase, IsWritableSet, IsCount, cut_of, mode_of}
use Rattle.std.specs.Int.{w64}
use Rattle.std.specs.Str.Parse.{digits_value}
use Rattle.std.proofs.lemmas.Str.Parse.{IsNumeralModel, numerals_by_value, tells_all_ascii_digits}
use Rattle.pref_term.proofs.ShownNames.{is_named}

-- ---- the tree of what is shown

abbrev pub number_text : ℤ → NumberText
number_text (pos n) = record { negative = false; digits = decimal n }
number_text (negsuc n) = record { negative = true; digits = decimal (suc n) }

-- an empty set is never shown
abbrev pub set_text : List ℤ → SetText
set_text [] = record { first = number_text (pos 0); others = [] }
set_text (v ∷ vs) = record { first = number_text v; others = map number_text vs }

abbrev pub base_text : Names → Base → BaseText
base_text names (low col) = low_text (name_at names col)
base_text names (high col) = high_text (name_at names col)
base_text names (around col centre) = around_text (name_at names col) (number_text centre)
base_text names (between col l r) = between_text (name_at names col) (number_text l) (number_text r)
base_text names (one_of col set) = pos_text (name_at names col) (set_text set).first (set_text set).others
base_text names (layered col []) = low_text (name_at names col)
base_text names (layered col (s ∷ ss)) = layered_text (name_at names col) (set_text s) (map set_text ss)

-- a tree of the tightest kind that the preference has
pub data Shape : Type 0 where
  factor : (u : UnaryText) → Shape
  product : (p : ProductText) → Shape
  ranked : (r : PriorText) → Shape

abbrev pub as_prior : Shape → PriorText
as_prior (factor u) = one_product (one_factor u)
as_prior (product p) = one_product p
as_prior (ranked r) = r

abbrev pub as_product : Shape → ProductText
as_product (factor u) = one_factor u
as_product (product p) = p
as_product (ranked r) = one_factor (grouped r)

abbrev pub as_factor : Shape → UnaryText
as_factor (factor u) = u
as_factor (product p) = grouped (one_product p)
as_factor (ranked r) = grouped r

abbrev pub shape_of : Names → Preference → Shape
shape_of names (scored b) = factor (based (base_text names b))
shape_of names (pareto p q) = product (then_factor (as_product (shape_of names p)) (as_factor (shape_of names q)))
shape_of names (prior p q) = ranked (then_product (as_prior (shape_of names p)) (as_product (shape_of names q)))
shape_of names (reverse p) = factor (negated (as_factor (shape_of names p)))

abbrev pub shape_leaves : Shape → ℕ → List Leaf
shape_leaves (factor u) depth = unary_leaves u depth
shape_leaves (product p) depth = product_leaves p depth
shape_leaves (ranked r) depth = prior_leaves r depth

-- ---- its meaning

abbrev pub shape_meaning : Shape → Names → Preference
shape_meaning (factor u) names = unary_meaning u names
shape_meaning (product p) names = product_meaning p names
shape_meaning (ranked r) names = prior_meaning r names

pub prior_same : (s : Shape) (names : Names) → prior_meaning (as_prior s) names ≡ shape_meaning s names
prior_same s names = grind arith

pub own_numerals : IsNumeralModel (λ ds. all_ascii_digits ds ≡ true) (digits_value 10)
own_numerals = numerals_by_value (λ ds. all_ascii_digits ds ≡ true) tells_all_ascii_digits

pub number_same : (v : ℤ) → FitsSigned w64 v → number_value (number_text v) ≡ v
number_same v h = grind (arith, digits_value-decimal, own_numerals)

-- so of each of a list
lists_same : {X T : Type 0} (value : T → X) (text : X → T) (Fits : X → Type 0) → ((x : X) → Fits x → value (text x) ≡ x) → (xs : List X) → All Fits xs → map value (map text xs) ≡ xs
lists_same value text Fits each [] h = refl
lists_same value text Fits each (x ∷ xs) h = grind (arith, each x (All-head Fits x xs h), lists_same value text Fits each xs (All-tail Fits x xs h))

set_same : (set : List ℤ) → IsWritableSet set → set_value (set_text set) ≡ set
set_same [] h = absurd (h.0 refl)
set_same (v ∷ vs) h = lists_same number_value number_text (FitsSigned w64) number_same (v ∷ vs) h.1

module _ (names : Names) (schema : schema_of names ≡ Ok names) where
  pub column_same : (col : ℕ) → col < length names → column_at names (name_at names col) ≡ col
  column_same col h = ap (λ o. unwrap_or o 0) (is_named names schema col h).1

  pub columns_same : (cs : List ℕ) → All (λ col. col < length names) cs → map (column_at names) (map (name_at names) cs) ≡ cs
  columns_same = lists_same (column_at names) (name_at names) (λ col. col < length names) column_same

  base_same : (b : Base) → column b < length names → IsWritableBase b → base_meaning names (base_text names b) ≡ b
  base_same (layered col []) h w = absurd (w.0 refl)
  base_same (layered col (s ∷ ss)) h w = grind (arith, column_same col h, lists_same set_value set_text IsWritableSet set_same (s ∷ ss) w.1)
  base_same b h w = grind (arith, column_same (column b) h, number_same, set_same)

  -- the tree has the meaning of what is shown
  pub meaning_same : (p : Preference) → ReadsBelow (length names) p → IsWritable p → shape_meaning (shape_of names p) names ≡ p
  meaning_same (scored b) h w = ap scored (base_same b h w)
  meaning_same (pareto p q) h w = grind (arith, meaning_same p h.0 w.0, meaning_same q h.1 w.1)
  meaning_same (prior p q) h w = grind (arith, meaning_same p h.0 w.0, meaning_same q h.1 w.1)
  meaning_same (reverse p) h w = grind (arith, meaning_same p h w)

-- ---- the head

-- how the mode is written
abbrev pub head_text : Mode → HeadText
head_text Best = best_head
head_text (TopLevel k) = top_level_head (decimal k)
head_text (AtLeast k) = at_least_head (decimal k)

pub head_same : (m : Mode) → IsCount (cut_of m) → mode_of (head_text m) ≡ m
head_same m h = grind (arith, digits_value-decimal, own_numerals, h.1)
