-- Signatures of rows: bits that say which marks of some scales a row reaches. (this project)
use Rattle.std.specs.Prelude.{◌≡◌, ◌^◌, ◌*◌, ◌%◌, ◌==◌, ℕ, ℤ, int_lt, pos, Bool, true, not, List, [], ◌∷◌, map, bit_and, bit_or, Contains}
use Rattle.std.specs.Int.{bit_not, from_bool, w64}
use Rattle.std.specs.List.{flat_map}
use Rattle.pref_term.specs.Keys.{keyed}
use Rattle.pref_term.specs.Order.{RowOrder}
use Rattle.pref_term.specs.declared.key.Key.{Key}
use Rattle.pref_term.specs.declared.signature.scale.Scale.{Scale}

-- its key is one of these
pub record IsBy (keys : List Key) (scale : Scale) : Type 0 where
  pub key : Contains keys scale.key

-- a row's bits by a scale: for each mark, whether the row's key is no less
abbrev pub bits_by : Scale → List ℤ → List Bool
bits_by scale row = map (λ mark. not (int_lt (keyed scale.key row) (pos mark))) scale.marks.items

-- a word with one bit more at its low end; of more than 64 bits the first ones fall out
abbrev pub with_bit : ℕ → Bool → ℕ
with_bit bits b = bit_or (bits * 2 ^ 1 % 2 ^ 64) (from_bool b)

-- a word with these bits behind it
abbrev pub signed_onto : ℕ → List Bool → ℕ
signed_onto word [] = word
signed_onto word (b ∷ bits) = signed_onto (with_bit word b) bits

-- the signature of a row: its bits by these scales
abbrev pub signature : List Scale → List ℤ → ℕ
signature scales row = signed_onto 0 (flat_map (λ scale. bits_by scale row) scales)

-- no bit of the first word is missing in the second
abbrev pub is_within : ℕ → ℕ → Bool
is_within a b = bit_and a (bit_not w64 b) == 0

-- a row that dominates another, or is its twin, has no bit that the other lacks
pub record Suit (order : RowOrder) (scales : List Scale) : Type 0 where
  pub over : (a b : List ℤ) → order.over a b ≡ true → is_within (signature scales a) (signature scales b) ≡ true
  pub twin : (a b : List ℤ) → order.twin a b ≡ true → is_within (signature scales a) (signature scales b) ≡ true
