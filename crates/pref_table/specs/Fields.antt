-- No public contract cites this.
-- The digits that a text begins with, and the plain field that a line begins with. (this project)
use Rattle.std.specs.Prelude.{◌≡◌, ◌≤◌, ◌<◌, ◌+◌, ℕ, ℤ, List, [], ◌∷◌, length, take, drop, Ok}
use Rattle.std.specs.Char.{is_ascii_digit}
use Rattle.std.specs.Str.Parse.{digits_value}
use Rattle.std.specs.List.{prefix_len, slice_split}
use Rattle.pref_table.specs.Number.{number_of}
use Rattle.pref_table.specs.Plain.{ArePlain}
use Rattle.pref_table.specs.Rows.{is_comma}

-- the digits that the first so many bytes of a text begin with: their value, and how many they are
pub record AreLeadingDigits (most : ℕ) (text : List ℕ) (value count : ℕ) : Type 0 where
  pub all : count ≡ prefix_len is_ascii_digit (take most text)
  pub reads : value ≡ digits_value 10 (take count text)

-- what a text begins with
abbrev pub IsFront : List ℕ → List ℕ → Type 0
IsFront line text = line ≡ take (length line) text

-- the first size bytes of a line are its first field, which is plain, and read as this number
pub record IsPlainField (line : List ℕ) (number : ℤ) (size : ℕ) : Type 0 where
  pub some : 0 < size
  pub inside : size ≤ length line
  pub reads : number_of (take size line) ≡ Ok number
  pub cut : size < length line → slice_split is_comma line ≡ take size line ∷ slice_split is_comma (drop (size + 1) line)
  pub last : size ≡ length line → slice_split is_comma line ≡ line ∷ []
  pub plain : ArePlain (drop (size + 1) line) → ArePlain line
