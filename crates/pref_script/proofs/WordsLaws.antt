-- The words of a command line.
use Rattle.pref_script.proofs.Common.{◌≡◌, ◌∙◌, ℕ, ◌+◌, ◌-◌, ◌*◌, ◌<◌, true, false, List, length, take, drop, get_or, sym, ap, refl, arith, nat_lt, Some, None, ◌≤◌, nat_le, not}
use Rattle.pref_script.proofs.Common.{is_ascii_digit, list_any, position_or_len, all_ascii_digits, bytes_eq, digits_value, and_left, and_right, le-leb, le-ltb, lt-leb, ne_eqb}
use Rattle.pref_script.proofs.Common.{drop_all, get_or-drop, get_or-take, length-drop, take_all, fails_before_first, passes_at_first, position_or_len_is, digits_next, after_blanks, is_blank}
use Rattle.pref_script.proofs.Common.{is_numeral, IsDigitsWord, after_word, word_number, word_of}
use Rattle.std.specs.Int.{IsInRange}
use Rattle.std.specs.Cmp.Lexicographic.{same_text}
use Rattle.std.proofs.lemmas.Int.Digits.{digits_value_more}
use Rattle.std.proofs.lemmas.List.Folds.{length-prefix_len, list_any_at}
use Rattle.std.proofs.lemmas.Str.{digit_value_digit}
use Rattle.std.proofs.lemmas.Str.Parse.{digits_value-take-le}

-- the word that a text begins with, and what follows the blanks after it, by the place of the first blank
pub word_at : (text : List ℕ) (place : ℕ) → position_or_len is_blank text ≡ place → word_of text ≡ take place text
unfolding word_of
word_at text place e = rw e refl

pub after_at : (text : List ℕ) (place : ℕ) → position_or_len is_blank text ≡ place → after_word text ≡ after_blanks (take (length text - place) (drop place text))
unfolding after_word
after_at text place e = rw (e, take_all (length text - place) (drop place text) (omega (arith, length-drop place text))) refl

-- the size of the word that a text begins with
pub word_size : (text : List ℕ) → length (word_of text) ≡ position_or_len is_blank text
unfolding word_of
word_size text = length-prefix_len (λ byte. not (is_blank byte)) text

-- a byte of a text that is no blank, where all before it are in the word, is in the word too
pub word_goes_on : (text : List ℕ) (place : ℕ) → place ≤ length (word_of text) → place < length text → is_blank (get_or text place 0) ≡ false
    → (place < length (word_of text)) × (get_or (word_of text) place 0 ≡ get_or text place 0)
unfolding word_of
word_goes_on text place before inside other = grind (arith, word_size text, passes_at_first is_blank text 0, get_or-take (position_or_len is_blank text) text place 0)

-- the word ends where a blank comes, or the text ends
pub word_ends : (text : List ℕ) (place : ℕ) → place ≤ length (word_of text) → place ≤ length text → (place < length text → is_blank (get_or text place 0) ≡ true) → position_or_len is_blank text ≡ place
word_ends text place before inside here = position_or_len_is is_blank text place 0 inside (λ k h. fails_before_first is_blank text k 0 (omega (arith, word_size text))) here

-- a word that was read as digits to its end
pub digits_word : (text : List ℕ) (place number : ℕ) → place ≤ length (word_of text) → digits_value 10 (take place (word_of text)) ≡ number → all_ascii_digits (drop place (word_of text)) ≡ all_ascii_digits (word_of text)
    → place ≤ length text → (place < length text → is_blank (get_or text place 0) ≡ true) → IsDigitsWord text number place
digits_word text place number before so_far digits inside here = grind (arith, word_size text, word_ends text place before inside here, drop_all place (word_of text), take_all place (word_of text))

-- a digit is no blank
pub digit_not_blank : (digit : ℕ) → IsInRange 48 57 digit → is_blank digit ≡ false
digit_not_blank digit range = rw (ne_eqb digit 32 (λ e. absurd (omega (arith, range.0, e))), ne_eqb digit 9 (λ e. absurd (omega (arith, range.0, e)))) refl

-- where the word ends that a text begins with
pub word_place : (text word : List ℕ) → bytes_eq (word_of text) word ≡ true → position_or_len is_blank text ≡ length word
word_place text word same = sym (word_size text) ∙ ap length (same_text (word_of text) word (sym same))

-- a text that begins with the bytes of a word, and then ends or has a blank
pub word_stripped : (text word : List ℕ) → list_any is_blank word ≡ false → true ≡ bytes_eq (take (length word) text) word → length word ≤ length text
    → (length word < length text → is_blank (get_or text (length word) 0) ≡ true) → (word_of text ≡ word) × (after_word text ≡ after_blanks (drop (length word) text))
word_stripped text word plain begins inside end =
    let plain_at : (k : ℕ) → k < length word → is_blank (get_or word k 0) ≡ false = λ k h. grind (arith, list_any_at is_blank word k 0 h) in
    let same : take (length word) text ≡ word = same_text (take (length word) text) word begins in
    let place = position_or_len_is is_blank text (length word) 0 inside (λ k h. grind (arith, get_or-take (length word) text k 0 h, same, plain_at k h)) end in
    grind (arith, word_at, after_at, same, place, take_all (length text - length word) (drop (length word) text), length-drop (length word) text)

-- the first byte of what is left behind so many
pub rest_first : (text rest : List ℕ) (size : ℕ) → rest ≡ drop size text → get_or rest 0 0 ≡ get_or text size 0
rest_first text rest size is = grind (arith, get_or-drop)

-- the number of the digits so far, with one digit more
pub value_more : (word : List ℕ) (place number : ℕ) → place < length word → IsInRange 48 57 (get_or word place 0) → digits_value 10 (take place word) ≡ number
    → digits_value 10 (take (place + 1) word) ≡ number * 10 + (get_or word place 0 - 48)
value_more word place number inside digit so_far = omega (arith, digits_value_more 10 word place inside, digit_value_digit (get_or word place 0) digit, digit.0, so_far)

pub number-not : (most : ℕ) (word : List ℕ) → is_numeral word ≡ false → word_number most word ≡ None
unfolding word_number
number-not most word h = rw h refl

pub number-is : (most : ℕ) (word : List ℕ) → is_numeral word ≡ true → digits_value 10 word ≤ most → word_number most word ≡ Some (digits_value 10 word)
unfolding word_number
number-is most word h few = rw (h, le-leb (digits_value 10 word) most few) refl

pub number-over : (most : ℕ) (word : List ℕ) → most < digits_value 10 word → word_number most word ≡ None
unfolding word_number
number-over most word many = rw (and_right (is_numeral word) (nat_le (digits_value 10 word) most) (lt-leb (digits_value 10 word) most many)) refl

-- the first digits of a word are a number too large already
pub number-large : (most : ℕ) (word : List ℕ) (count : ℕ) → most < digits_value 10 (take count word) → word_number most word ≡ None
number-large most word count many = number-over most word (omega (arith, many, digits_value-take-le 10 word count (omega arith)))

-- a word with no digit, and one with another byte
pub number-empty : (most : ℕ) (word : List ℕ) → length word ≡ 0 → word_number most word ≡ None
number-empty most word none = number-not most word (and_left (nat_lt 0 (length word)) (all_ascii_digits word) (le-ltb 0 (length word) (omega arith)))

pub number-others : (most : ℕ) (word : List ℕ) (place : ℕ) → place < length word → all_ascii_digits (drop place word) ≡ all_ascii_digits word → is_ascii_digit (get_or word place 0) ≡ false
    → word_number most word ≡ None
number-others most word place inside rest other = grind (arith, digits_next, number-not)
