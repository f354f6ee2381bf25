-- A command line that begins as most do.
use Rattle.pref_script.proofs.Common.{◌≡◌, ℕ, ◌-◌, ◌≤◌, true, List, [], ◌∷◌, length, drop, get_or, arith, Some}
use Rattle.pref_script.proofs.Common.{is_ascii_digit, prefix_len_is, after_blanks, is_blank, client_named, said_in, said_by_client, after_word, word_number, word_of}
use Rattle.std.specs.Int.{IsInRange}
use Rattle.pref_script.proofs.WordsLaws.{digit_not_blank, number-is}

-- the number of one digit
digit_number : (digit : ℕ) → IsInRange 48 57 digit → is_ascii_digit digit ≡ true → word_number 255 (digit ∷ []) ≡ Some (digit - 48)
digit_number digit range is = grind (arith, number-is)

-- what follows one blank
after_one : (rest : List ℕ) → after_blanks (32 ∷ rest) ≡ after_blanks rest
after_one rest = grind (arith)

-- what the line says, and the client that it names
pub client_at : (line : List ℕ) → 5 ≤ length line → get_or line 0 0 ≡ 97 → get_or line 1 0 ≡ 115 → get_or line 2 0 ≡ 32 → IsInRange 48 57 (get_or line 3 0) → is_ascii_digit (get_or line 3 0) ≡ true → get_or line 4 0 ≡ 32
    → (said_in line ≡ said_by_client (get_or line 3 0 - 48) (after_blanks (drop 5 line))) × (client_named line ≡ Some (get_or line 3 0 - 48))
unfolding said_in client_named word_of after_word
client_at (a ∷ s ∷ blank ∷ digit ∷ end ∷ rest) few = λ at0 at1 at2 range is at4. grind (arith, at0, at1, at2, at4, digit_not_blank digit range, after_one (digit ∷ 32 ∷ rest), after_one rest, prefix_len_is is_blank (digit ∷ 32 ∷ rest) 0 0, digit_number digit range is)
client_at line few = absurd (omega (arith, few))
