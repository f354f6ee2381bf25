-- The numbers of rows, one row after the other.
use Rattle.std.proofs.Common.{arith, ◌≡◌, ◌∙◌, ℕ, ℤ, ◌+◌, ◌-◌, ◌*◌, ◌<◌, ◌≤◌, List, [], ◌∷◌, ◌++◌, add-mul, ap, length, drop, get_or, mul-le-mul_right, one-mul, set, sym, take, append_assoc}
use Rattle.std.proofs.lemmas.List.{append-nil, drop_more, drop_all, take_all}
use borrow.Rule.Slice.PartMut.{put_mid}
use Rattle.pref_sky.specs.declared.entry.Ranked.{Ranked}
use Rattle.prefq_c.specs.Numbers.{row_numbers}
unfoldable use Rattle.prefq_c.specs.Numbers.{rows_numbers}

-- a level, an id and the values behind them are all of an array
pub row-put : (numbers values : List ℤ) (level id : ℤ) → 2 ≤ length numbers
    → put_mid 2 (length (set (set numbers 0 level) 1 id) - 2) (set (set numbers 0 level) 1 id) values ≡ level ∷ id ∷ values
row-put [] values level id some = absurd (omega arith)
row-put (first ∷ []) values level id some = absurd (omega arith)
row-put (first ∷ second ∷ rest) values level id some =
    ap (λ none. level ∷ id ∷ (values ++ none)) (drop_all (length (level ∷ id ∷ rest) - 2) rest (omega arith)) ∙ ap (λ all. level ∷ id ∷ all) (append-nil values)

-- where the numbers of a row end
pub row_ends : (width place : ℕ) → place * (2 + width) + (2 + width) ≡ (place + 1) * (2 + width)
row_ends width place = omega (arith, add-mul place 1 (2 + width), one-mul (2 + width))

-- that is within those of all rows
pub row_inside : (width place count : ℕ) → place < count → place * (2 + width) + (2 + width) ≤ count * (2 + width)
row_inside width place count inside = omega (arith, row_ends width place, mul-le-mul_right {m = place + 1} {n = count} (2 + width) (omega (arith, inside)))

-- one row more
pub numbers-more : (width : ℕ) (out wrote all : List ℤ) (rows : List Ranked) (place : ℕ) (x d : Ranked) → place < length rows → get_or rows place d ≡ x
    → out ++ rows_numbers width (drop place rows) ≡ all → wrote ≡ out ++ row_numbers width x → wrote ++ rows_numbers width (drop (place + 1) rows) ≡ all
unfolding rows_numbers
numbers-more width out wrote all rows place x d inside here before now = grind (arith, drop_more, append_assoc)

-- and none more: then that is the whole array
pub numbers-whole : (width at : ℕ) (numbers all : List ℤ) (rows : List Ranked) (place : ℕ) → length rows ≤ place → length numbers ≤ at
    → take at numbers ++ rows_numbers width (drop place rows) ≡ all → numbers ≡ all
unfolding rows_numbers
numbers-whole width at numbers all rows place none full before = sym (take_all at numbers full) ∙ sym (append-nil (take at numbers)) ∙ rw (drop_all place rows none) at before
