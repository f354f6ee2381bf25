-- Keys: a number for each row by which a base term or its converse ranks rows; less is better. (this project)
use Rattle.std.specs.Prelude.{◌≡◌, ◌^◌, ◌-◌, ◌-ℤ◌, ◌+ℤ◌, ℤ, int_lt, pos, Bool, true, false, not, ◌&&◌, List, [], ◌∷◌, ◌++◌}
use Rattle.pref_term.specs.Better.{cell, outside, sets_before}
use Rattle.pref_term.specs.Preference.{Base, low, high, around, between, one_of, layered, Preference, scored, pareto, prior, reverse}
use Rattle.pref_term.specs.Walk.{by_scores, in_product}
use Rattle.pref_term.specs.declared.key.Key.{Key}
use Rattle.pref_term.specs.declared.key.Score.{Score}
use Rattle.pref_term.specs.declared.key.Score.TheVariants.{Value, Distance, Sets}
use Rattle.pref_term.specs.declared.relation.Relation.{Relation}
use Rattle.pref_term.specs.declared.relation.Relation.TheVariants.{Same}

-- the score of a value, from 0 on
abbrev pub from_zero : Score → ℤ → ℤ
from_zero Value v = v +ℤ pos (2 ^ 63)
from_zero (Distance left right) v = outside left right v
from_zero (Sets sets) v = pos (sets_before sets v)

-- in the opposite order, of numbers up to 2^64 - 1
abbrev pub opposed : Bool → ℤ → ℤ
opposed true x = pos (2 ^ 64 - 1) -ℤ x
opposed false x = x

-- the key of a row
abbrev pub keyed : Key → List ℤ → ℤ
keyed k row = opposed k.turned (from_zero k.score (cell row k.col))

-- the key of a base term, or of its converse
abbrev pub key_for : Base → Bool → Key
key_for (low col) turned = record { col = col; score = Value; turned = turned }
key_for (high col) turned = record { col = col; score = Value; turned = not turned }
key_for (around col centre) turned = record { col = col; score = Distance centre centre; turned = turned }
key_for (between col left right) turned = record { col = col; score = Distance left right; turned = turned }
key_for (one_of col set) turned = record { col = col; score = Sets (set ∷ []); turned = turned }
key_for (layered col sets) turned = record { col = col; score = Sets sets; turned = turned }

-- the row with the smaller key is better
abbrev pub by_key : Key → List ℤ → List ℤ → Relation
by_key k a b = by_scores (keyed k a) (keyed k b)

-- the first row has no greater key than the second
unfoldable pub IsNoGreater : List ℤ → List ℤ → Key → Type 0
IsNoGreater a b k = int_lt (keyed k b) (keyed k a) ≡ false

-- the keys that lead a preference, or its converse: those of each part of a product, and of a priority those of its first part
abbrev pub leading : Preference → Bool → List Key
leading (scored t) turned = key_for t turned ∷ []
leading (pareto p q) turned = leading p turned ++ leading q turned
leading (prior p q) turned = leading p turned
leading (reverse p) turned = leading p (not turned)

-- a number of its value, and no search through sets
abbrev pub is_number : Score → Bool
is_number Value = true
is_number (Distance left right) = true
is_number (Sets sets) = false

-- it has no priority in it, so its leading keys are its whole order; and it has no sets
abbrev pub is_product : Preference → Bool
is_product (scored t) = is_number (key_for t false).score
is_product (pareto p q) = is_product p && is_product q
is_product (prior p q) = false
is_product (reverse p) = is_product p

-- how a first row compares with a second one by the product of these keys
abbrev pub by_keys : List Key → List ℤ → List ℤ → Relation
by_keys [] a b = Same
by_keys (key ∷ keys) a b = in_product (by_key key a b) (by_keys keys a b)
