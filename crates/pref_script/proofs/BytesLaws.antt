-- Bytes that are read and written part by part.
use Rattle.pref_script.proofs.Common.{◌≡◌, ◌++◌, [], ℕ, ◌+◌, ◌-◌, ◌<◌, ◌≤◌, List, length, take, drop, arith, Option, ◌∷◌, ℤ, pos, map, get_or, append_assoc, Appends}
use Rattle.pref_script.proofs.Common.{Appends-trans, signed_decimal, join_with_byte, range_with_len, row_text, drop-drop, take_all, length-drop, take-add}
use Rattle.std.proofs.lemmas.List.FromFn.{length-map-range_with_len, map-range_with_len_more}

-- one write more
pub written_more : (a b c : Option (List ℕ)) (bytes rest : List ℕ) (done count : ℕ) → done ≤ length bytes → rest ≡ drop done bytes → count ≤ length rest
    → Appends a b (take done bytes) → Appends b c (take count rest)
    → (done + count ≤ length bytes) × (take (length rest - count) (drop count rest) ≡ drop (done + count) bytes) × Appends a c (take (done + count) bytes)
written_more a b c bytes rest done count inside parts few before now = grind (arith, length-drop, take-add, take_all, drop-drop, Appends-trans)

-- one more of some parts that are joined by a byte
pub join-push : (c : ℕ) (parts : List (List ℕ)) (part : List ℕ) → 0 < length parts → join_with_byte c (parts ++ part ∷ []) ≡ join_with_byte c parts ++ (c ∷ part)
join-push c [] part h = absurd (omega arith)
join-push c (x ∷ rest) part h = grind (arith, join-push c rest part, append_assoc)

-- one cell more
pub row_text-more : (cells : List ℤ) (col : ℕ) → 0 < col → row_text (col + 1) cells ≡ row_text col cells ++ (44 ∷ signed_decimal (get_or cells col (pos 0)))
row_text-more cells col some =
    let text = λ (k : ℕ). signed_decimal (get_or cells k (pos 0)) in
    rw (map-range_with_len_more text 0 col col (omega arith)) (join-push 44 (map text (range_with_len 0 col)) (text col) (omega (arith, length-map-range_with_len text 0 col)))
