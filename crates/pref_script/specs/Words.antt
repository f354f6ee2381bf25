-- The words of a command line. (this project)
use Rattle.std.specs.Prelude.{ℕ, ◌==◌, ◌&&◌, List, length, take, drop, Option, Some, None, nat_le, if◌then◌else◌, option_and_then}
use Rattle.std.specs.List.{position_or_len}
use Rattle.std.specs.Str.Parse.{digits_value}
use Rattle.pref_table.specs.Number.{after_blanks, is_blank, is_numeral}

infixl 10 ◌>>=◌
abbrev pub ◌>>=◌ : {A B : Type 0} → Option A → (A → Option B) → Option B
o >>= f = option_and_then f o

-- the word that a text begins with, and what follows the blanks after it
unfoldable pub word_of : List ℕ → List ℕ
word_of text = take (position_or_len is_blank text) text

unfoldable pub after_word : List ℕ → List ℕ
after_word text = after_blanks (drop (position_or_len is_blank text) text)

-- the number of a word of digits, where it is small enough
unfoldable pub word_number : ℕ → List ℕ → Option ℕ
word_number most word = if is_numeral word && nat_le (digits_value 10 word) most then Some (digits_value 10 word) else None

-- what is said, where nothing follows
abbrev pub alone : {A : Type 0} → A → List ℕ → Option A
alone what rest = if length rest == 0 then Some what else None

-- the id that a word is
abbrev pub id_of : List ℕ → Option ℕ
id_of word = word_number 18446744073709551615 word

-- an id, and nothing after it
abbrev pub lone_id : List ℕ → Option ℕ
lone_id text = do
  id ← id_of (word_of text)
  alone id (after_word text)
