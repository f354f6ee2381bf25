-- Each name of a schema is a word, and its first column is its own.
use Rattle.pref_term.proofs.Common.{or_parts, ◌≡◌, ◌<◌, ◌+◌, ℕ, zero, suc, List, [], ◌∷◌, length, take, get_or, Bool, true, false, ◌&&◌, Some, Result, Ok}
use Rattle.pref_term.proofs.Common.{arith, position, is_ascii_alphabetic, list_any, list_all, position_or_len, bytes_eq, bytes_eq-Decides}
use Rattle.pref_term.proofs.Common.{is_name, is_name_byte, name_after, name_in, schema_of, and_parts, Names, name_at}
use Rattle.pref_table.specs.Columns.{column_of}
use Rattle.pref_table.specs.Numbered.{all_from}
use Rattle.pref_table.proofs.NumberedFacts.{all_from-parts}
use Rattle.pref_table.proofs.NamesFacts.{schema-size, schema_of-some}

-- a letter, and then bytes of names
abbrev pub is_word_text : List ℕ → Bool
is_word_text [] = false
is_word_text (b ∷ bs) = is_ascii_alphabetic b && list_all is_name_byte bs

-- a column that has a name of its own
abbrev pub IsNamed : Names → ℕ → Type 0
IsNamed names col = (is_word_text (name_at names col) ≡ true) × (column_of names (name_at names col) ≡ Some col)

name_is_word : (name : List ℕ) → is_name name ≡ true → is_word_text name ≡ true
name_is_word name h = grind (arith, and_parts)

-- what the check of a name says
after_says : (earlier : Names) (col : ℕ) (name : List ℕ) → name_after earlier col name ≡ Ok name → (is_name name ≡ true) × (list_any (λ other. bytes_eq other name) earlier ≡ false)
after_says earlier col name h = grind (arith)

-- the checks of a list, one by one
all_from-at : {A E : Type 0} (f : ℕ → A → Result A E) (n : ℕ) (xs ys : List A) (i : ℕ) (d : A) → all_from f n xs ≡ Ok ys → i < length xs → f (n + i) (get_or xs i d) ≡ Ok (get_or ys i d)
all_from-at f n [] ys i d h k = absurd (omega arith)
all_from-at f n (x ∷ xs) ys zero d h k = grind (arith, all_from-parts)
all_from-at f n (x ∷ xs) ys (suc i) d h k = grind (arith, all_from-parts, all_from-at f (n + 1) xs)

-- the first place at which a test passes
first_place : {A : Type 0} (p : A → Bool) (xs : List A) (i : ℕ) (d : A) → i < length xs → p (get_or xs i d) ≡ true → list_any p (take i xs) ≡ false → position_or_len p xs ≡ i
first_place p (x ∷ xs) (suc i) d k here before = grind (arith, or_parts, first_place p xs i)
first_place p xs i d k here before = grind (arith)

first_position : {A : Type 0} (p : A → Bool) (xs : List A) (i : ℕ) → i < length xs → position_or_len p xs ≡ i → position p xs ≡ Some i
first_position p xs i k e = grind (arith)

-- each column of a schema has a name of its own
pub is_named : (names : Names) → schema_of names ≡ Ok names → (col : ℕ) → col < length names → IsNamed names col
is_named names h col inside =
    let said : name_in names (1 + col) (name_at names col) ≡ Ok (name_at names col) = grind (arith, schema-size, schema_of-some, all_from-at) in
    let free = after_says _ _ _ said in
    let first : position_or_len (λ known. bytes_eq known (name_at names col)) names ≡ col = first_place _ names col [] inside (grind (arith, bytes_eq-Decides)) (grind (arith, free.1)) in
    (name_is_word (name_at names col) free.0, first_position _ names col inside first)
