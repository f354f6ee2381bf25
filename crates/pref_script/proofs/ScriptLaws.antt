-- A script, one line at a time.
use Rattle.pref_script.proofs.Common.{◌≡◌, ◌∙◌, ℕ, ◌+◌, ◌-◌, ◌<◌, ◌≤◌, true, false, List, [], ◌∷◌, ◌++◌, length, take, drop, get_or, sym, ap, refl, arith, append_assoc, Some, None, Err, concat}
use Rattle.pref_script.proofs.Common.{position_or_len, append-nil, take-append-le, take_all, length-append, length-drop, take_more, position_or_len_is, IsFirstByte}
use Rattle.pref_script.proofs.Common.{is_byte, is_end_line, is_line_feed, sections_of, raw_lines}
use borrow.Author.Count.{below_more}
use Rattle.std.proofs.lemmas.List.{nil_from_length}
use Rattle.std.proofs.lemmas.List.Folds.{concat-append}
use Rattle.std.proofs.lemmas.List.Splits.{length-slice_split}
use Rattle.pref_script.specs.declared.fault.RunFault.TheVariants.{NoTable}
use Rattle.pref_script.proofs.SplitLaws.{drop_here, split_first, split_none}

-- a text cut after its first line feed
pub lines_at : (text : List ℕ) (place : ℕ) → IsFirstByte (is_byte 10) text (Some place) → raw_lines text ≡ take (place + 1) text ∷ raw_lines (drop (place + 1) text)
unfolding raw_lines
lines_at text place found = grind (arith, split_first 10 text place found, take_more text place 0, length-slice_split is_line_feed (drop (place + 1) text))

-- a text with no line feed
pub lines_last : (text : List ℕ) → 0 < length text → IsFirstByte (is_byte 10) text None → raw_lines text ≡ text ∷ raw_lines []
unfolding raw_lines
lines_last text some none = grind (arith, split_none 10 text none)

pub lines_none : raw_lines [] ≡ []
unfolding raw_lines
lines_none = refl

pub lines_empty : (text : List ℕ) → length text ≡ 0 → raw_lines text ≡ []
lines_empty text none = ap raw_lines (nil_from_length text none) ∙ lines_none

-- lists joined, one list more
pub concat-push : (xss : List (List ℕ)) (xs : List ℕ) → concat (xss ++ xs ∷ []) ≡ concat xss ++ xs
concat-push xss xs = concat-append xss (xs ∷ []) ∙ ap (λ (t : List ℕ). concat xss ++ t) (append-nil xs)

-- of the lines of a text, this many were seen, and none of them is the line `end`
pub record Seen (rest left : List ℕ) (count : ℕ) : Type 0 where
  pub lines : raw_lines left ≡ drop count (raw_lines rest)
  pub before : (k : ℕ) → k < count → is_end_line (get_or (raw_lines rest) k []) ≡ false
  pub text : rest ≡ concat (take count (raw_lines rest)) ++ left
  pub size : count ≤ length (raw_lines rest)
  pub few : count + length left ≤ length rest

pub seen_more : (rest left raw tail : List ℕ) (count : ℕ) → Seen rest left count → raw_lines left ≡ raw ∷ raw_lines tail → left ≡ raw ++ tail → 0 < length raw
    → is_end_line raw ≡ false → Seen rest tail (count + 1)
seen_more rest left raw tail count seen cut parts some other =
    let all = raw_lines rest in
    let (inside, here, after) = drop_here all count [] raw (raw_lines tail) (sym seen.lines ∙ cut) in record {
      lines = sym after;
      before = below_more (λ k. is_end_line (get_or all k []) ≡ false) count seen.before (ap is_end_line here ∙ other);
      text = grind (arith, take_more all count [] inside, here, concat-push (take count all) (get_or all count []), append_assoc, seen.text, parts);
      size = omega arith;
      few = omega (arith, seen.few, ap length parts, length-append raw tail);
    }

-- the line `end` is met
pub seen_found : (rest left raw tail : List ℕ) (count : ℕ) → Seen rest left count → raw_lines left ≡ raw ∷ raw_lines tail → left ≡ raw ++ tail → is_end_line raw ≡ true
    → let lines = raw_lines rest in let place = position_or_len is_end_line lines in
    (place < length lines) × (take (length rest - length left) rest ≡ concat (take place lines)) × (raw_lines tail ≡ drop (place + 1) lines) × (count + 3 ≡ place + 3)
    × (count + 3 + length tail ≤ length rest + 3)
seen_found rest left raw tail count seen cut parts ends =
    let all = raw_lines rest in
    let (inside, here, after) = drop_here all count [] raw (raw_lines tail) (sym seen.lines ∙ cut) in
    let place : position_or_len is_end_line all ≡ count = position_or_len_is is_end_line all count [] (omega arith) seen.before (λ h. ap is_end_line here ∙ ends) in
    let front = concat (take count all) in
    grind (arith, place, inside, here, after, length-append front left, take-append-le (length front) front left, take_all (length front) front, length-append raw tail, seen.text, seen.few)

-- no line is left
pub seen_all : (rest left : List ℕ) (count : ℕ) → Seen rest left count → length left ≡ 0 → length (raw_lines rest) ≤ position_or_len is_end_line (raw_lines rest)
seen_all rest left count seen none = grind (arith, lines_empty left none, length-drop count (raw_lines rest), position_or_len_is is_end_line (raw_lines rest) (length (raw_lines rest)) [])

-- a script by its first line
pub script-none : (script : List ℕ) → length script ≡ 0 → sections_of (raw_lines script) ≡ Err NoTable
script-none script none = rw (lines_empty script none) refl
