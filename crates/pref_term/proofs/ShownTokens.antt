-- The tokens of what is shown: names, digits and signs.
use Rattle.pref_term.proofs.Common.{[], ◌≡◌, ◌<◌, ◌^◌, ◌+◌, ◌≤◌, ℕ, zero, suc, List, ◌∷◌, ◌++◌, Bool, true, false, length, drop, refl, arith, codes, nat_tests}
use Rattle.pref_term.proofs.Common.{is_ascii_digit, prefix_len, list_all, take-append_seam, drop-append_seam, length-append, is_name_byte, is_blank, decimal, all_ascii_digits, digits_decimal, decimal_nonempty}
use Rattle.pref_term.proofs.Common.{Sign, Token, word, digits, sign, more_bytes, token_from, tokens_from, tokens_in, Keyword, letters_of, left, right, comma, star, ampersand, minus, left_brace, right_brace}
use Rattle.pref_term.proofs.ShownLemmas.{own_numerals}
use Rattle.pref_term.proofs.ShownNames.{is_word_text}
use Rattle.pref_term.proofs.TokenLemmas.{found_passed}

-- the tokens don't depend on where they stand
pub place_free : (k p q : ℕ) (bs : List ℕ) → tokens_in (tokens_from k p bs) ≡ tokens_in (tokens_from k q bs)
place_free k p q [] = refl
place_free (suc k) p q (b ∷ bs) = place_free k (p + 1) (q + 1) bs
place_free zero p q (b ∷ bs) = grind (arith, place_free 0 (p + 1) (q + 1) bs, place_free (more_bytes b bs) (p + 1) (q + 1) bs)

-- the tokens of bytes
abbrev pub lexed : List ℕ → List Token
lexed bs = tokens_in (tokens_from 0 0 bs)

-- a byte that is no blank, and its token
lexed_head : (b : ℕ) (bs : List ℕ) → is_blank b ≡ false → more_bytes b bs ≤ length bs → lexed (b ∷ bs) ≡ token_from b bs ∷ lexed (drop (more_bytes b bs) bs)
lexed_head b bs plain room = grind (arith, found_passed, place_free)

-- what follows doesn't go on
abbrev pub Ends : (ℕ → Bool) → List ℕ → Type 0
Ends test [] = Unit {0}
Ends test (c ∷ cs) = test c ≡ false

run_length : (test : ℕ → Bool) (bs rest : List ℕ) → list_all test bs ≡ true → Ends test rest → prefix_len test (bs ++ rest) ≡ length bs
run_length test [] rest h e = grind (arith)
run_length test (b ∷ bs) rest h e = grind (arith, run_length test bs rest)

-- the rest behind a run of bytes
run_lexed : (b : ℕ) (bs rest : List ℕ) → is_blank b ≡ false → more_bytes b (bs ++ rest) ≡ length bs → lexed ((b ∷ bs) ++ rest) ≡ token_from b (bs ++ rest) ∷ lexed rest
run_lexed b bs rest plain run = grind (arith, length-append, lexed_head, drop-append_seam)

pub word_lexed : (letters rest : List ℕ) → is_word_text letters ≡ true → Ends is_name_byte rest → lexed (letters ++ rest) ≡ word letters ∷ lexed rest
word_lexed (b ∷ bs) rest h e = grind (arith, nat_tests, run_length, take-append_seam, run_lexed)
word_lexed [] rest h e = cc

digits_lexed : (ds rest : List ℕ) → all_ascii_digits ds ≡ true → 0 < length ds → Ends is_ascii_digit rest → lexed (ds ++ rest) ≡ digits ds ∷ lexed rest
digits_lexed (b ∷ bs) rest h n e = grind (arith, nat_tests, run_length, take-append_seam, run_lexed)
digits_lexed [] rest h n e = absurd (omega arith)

-- a digit is a byte of names too
pub digit_ends : (rest : List ℕ) → Ends is_name_byte rest → Ends is_ascii_digit rest
digit_ends rest e = grind (arith, nat_tests)

pub decimal_lexed : (n : ℕ) (rest : List ℕ) → n < 2 ^ 64 → Ends is_name_byte rest → lexed (decimal n ++ rest) ≡ digits (decimal n) ∷ lexed rest
decimal_lexed n rest h e = digits_lexed (decimal n) rest (digits_decimal own_numerals n h) (decimal_nonempty n h) (digit_ends rest e)

pub keyword_word : (k : Keyword) → is_word_text (letters_of k) ≡ true
keyword_word k = grind (arith)

-- a sign as it is shown
abbrev pub sign_text : Sign → List ℕ
sign_text left = codes "("
sign_text right = codes ")"
sign_text comma = codes ", "
sign_text star = codes " * "
sign_text ampersand = codes " & "
sign_text minus = codes "-"
sign_text left_brace = codes "{"
sign_text right_brace = codes "}"

pub sign_lexed : (s : Sign) (rest : List ℕ) → lexed (sign_text s ++ rest) ≡ sign s ∷ lexed rest
sign_lexed s rest = grind (arith, place_free)
