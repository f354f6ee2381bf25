-- A text that is cut at the first of some bytes.
use Rattle.pref_script.proofs.Common.{◌≡◌, ◌∙◌, ℕ, ◌+◌, ◌<◌, false, List, [], ◌∷◌, length, take, drop, get_or, ap, arith, Some, None, ◌==◌, slice_split, eq-eqb, ne_eqb}
use Rattle.pref_script.proofs.Common.{drop_more, get_or_default, length-drop, position_or_len_is, IsFirstByte, Nowhere, Passes, is_byte}
use Rattle.std.proofs.lemmas.List.Splits.{slice_split_first, slice_split_none}

-- the bytes where a search has not met one
before_byte : (byte : ℕ) (text : List ℕ) (end : ℕ) → Nowhere (Passes (is_byte byte) text) 0 end → (k : ℕ) → k < end → (get_or text k 0 == byte) ≡ false
before_byte byte text end none k h = ne_eqb (get_or text k 0) byte (λ same. none k (omega arith) h (eq-eqb _ byte same))

pub split_first : (byte : ℕ) (text : List ℕ) (place : ℕ) → IsFirstByte (is_byte byte) text (Some place)
    → slice_split (λ (b : ℕ). b == byte) text ≡ take place text ∷ slice_split (λ (b : ℕ). b == byte) (drop (place + 1) text)
split_first byte text place found = grind (arith, position_or_len_is, slice_split_first)

pub split_none : (byte : ℕ) (text : List ℕ) → IsFirstByte (is_byte byte) text None → slice_split (λ (b : ℕ). b == byte) text ≡ text ∷ []
split_none byte text none = slice_split_none (λ (b : ℕ). b == byte) text (λ k d h. ap (λ (b : ℕ). b == byte) (get_or_default text k d 0 h) ∙ before_byte byte text (length text) none k h)

-- the first element that is left of a list, and those after it
pub drop_here : {A : Type 0} (xs : List A) (n : ℕ) (d x : A) (more : List A) → drop n xs ≡ x ∷ more
    → (n < length xs) × (get_or xs n d ≡ x) × (drop (n + 1) xs ≡ more)
drop_here xs n d x more e = grind (arith, length-drop n xs, drop_more xs n d)
