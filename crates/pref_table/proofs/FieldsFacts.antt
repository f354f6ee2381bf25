-- A field of digits, perhaps behind a sign, read in the pass that finds its end.
use Rattle.pref_table.proofs.Common.{◌≡◌, ℕ, ◌+◌, ◌-◌, ◌<◌, ◌≤◌, ◌^◌, Bool, true, false, List, [], ◌∷◌, length, take, drop, get_or, sym, refl, arith, zero, suc, Ok, ℤ, inl, inr}
use Rattle.pref_table.proofs.Common.{◌==◌, ◌||◌, digits_value, starts_with_minus, without_leading_sign}
use Rattle.pref_table.proofs.Common.{ne_eqb, get_or-drop, get_or-take, length-drop, length-take-le, take_all, fits_cell, is_blank, number_of, signed_by, without_blanks, ArePlain, IsPlain}
use Rattle.pref_table.proofs.Common.{length-take, ◌∙◌, ap, subst}
use Rattle.std.proofs.lemmas.Bool.{cases_lt}
use Rattle.std.proofs.lemmas.Bool.Decides.{nat_tests}
use Rattle.std.proofs.lemmas.List.{drop-take, take-take, take_rest}
use Rattle.std.proofs.lemmas.List.Sums.{prefix_len-drop_no, suffix_len-take_no}
use Rattle.pref_table.specs.Capped.{IsCapped}
use Rattle.pref_table.specs.Fields.{AreLeadingDigits, IsFront, IsPlainField}
use Rattle.std.specs.Char.{is_ascii_digit}
use Rattle.pref_table.proofs.LeadingFacts.{AreDigits, IsDigit, all_digits, leading_are, leading_digits-are, leading_few, leading_inside, leading_is, leading_small, leading_stops}
use Rattle.pref_table.proofs.NumberFacts.{number_fits}
use Rattle.pref_table.proofs.RowsFacts.{cut_at, cut_none}

-- a sign or a digit
abbrev IsSigned : ℕ → Type 0
IsSigned byte = (43 ≤ byte) × (byte < 58) × (byte ≡ 44 → ⊥)

not_blank : (byte : ℕ) → IsSigned byte → is_blank byte ≡ false
not_blank byte (low, high, _) = rw (ne_eqb byte 32 (λ e. absurd (omega arith)), ne_eqb byte 9 (λ e. absurd (omega arith))) refl

digit_signed : (byte : ℕ) → IsDigit byte → IsSigned byte
digit_signed byte (low, high) = (omega arith, high, λ e. absurd (omega arith))

signed_plain : (byte : ℕ) → IsSigned byte → IsPlain byte
signed_plain byte (low, high, other) = (λ e. absurd (omega arith), λ e. absurd (omega arith), λ e. absurd (omega arith))

-- a field that neither begins nor ends with a blank
no_blanks : (field : List ℕ) → 0 < length field → is_blank (get_or field 0 0) ≡ false → is_blank (get_or field (length field - 1) 0) ≡ false → field ≡ without_blanks field
no_blanks field some first last = grind (arith, prefix_len-drop_no is_blank field 0 0 some first, take_all (length field) field (omega arith), take_all (length field - 0) field (omega arith), suffix_len-take_no is_blank field (length field) 0 some (omega arith) last)

pub small-fits : (negative : Bool) (value : ℕ) → value < 10 ^ 18 → fits_cell (signed_by negative value) ≡ true
small-fits negative value h = grind (arith)

-- what a field of an optional sign and digits reads as
field_reads : (field digits : List ℕ) (value : ℕ) → digits ≡ without_leading_sign field → 0 < length digits → AreDigits digits (length digits)
    → field ≡ without_blanks field → value ≡ digits_value 10 digits → value < 10 ^ 18 → number_of field ≡ Ok (signed_by (starts_with_minus field) value)
field_reads field digits value d some are blanks e small =
    let capped : IsCapped value (digits_value 10 digits) = record { same = λ _. e; more = λ h. absurd (omega arith) } in
    number_fits field field digits blanks d (ne_eqb (length digits) 0 (λ z. absurd (omega arith))) (all_digits digits are) value capped
    (signed_by (starts_with_minus field) value) (small-fits (starts_with_minus field) value small) refl

-- a line is plain where its first field is of signs and digits, and what follows the comma is plain
line_plain : (line : List ℕ) (size : ℕ) → ((k : ℕ) → k < size → IsSigned (get_or line k 0)) → (size < length line → get_or line size 0 ≡ 44)
    → ArePlain (drop (size + 1) line) → ArePlain line
line_plain line size signed comma rest k inside = grind (arith, signed_plain, get_or-drop (size + 1) line (k - (size + 1)) 0, length-drop (size + 1) line)

-- a first field ends at its comma, or with the line
field_ends : (line : List ℕ) (number : ℤ) (size : ℕ) → 0 < size → size ≤ length line → number_of (take size line) ≡ Ok number
    → ((k : ℕ) → k < size → IsSigned (get_or line k 0)) → (size < length line → get_or line size 0 ≡ 44) → IsPlainField line number size
field_ends line number size some inside reads signed comma = grind (arith, cut_at, cut_none, line_plain)

-- what ends a first field that does not end with its line
pub comma_there : (size long byte : ℕ) → ((size == long) || (byte == 44)) ≡ true → size < long → byte ≡ 44
comma_there size long byte ends inside = grind (arith, nat_tests)

front_take : (line text : List ℕ) (count : ℕ) → IsFront line text → count ≤ length line → take count text ≡ take count line
front_take line text count front within = sym (ap (take count) front ∙ take-take count (length line) text within)

-- digits that a text begins with, where they are within a line that it begins with
pub leading_within : (most : ℕ) (line text : List ℕ) (value count : ℕ) → IsFront line text → count ≤ length line → AreLeadingDigits most text value count → AreLeadingDigits most line value count
leading_within most line text value count front within led =
    let at = λ (k : ℕ) (h : k < length line). ap (λ l. get_or l k 0) front ∙ get_or-take (length line) text k 0 h in
    record {
      all = leading_is most line count (leading_few most text count led.all) within
          (λ k h. subst IsDigit (sym (at k (omega arith))) (leading_are most text count led.all k h))
          (λ less inside. ap is_ascii_digit (at count inside) ∙ leading_stops most text count led.all less (omega (arith, inside, ap length front, length-take (length line) text)));
      reads = led.reads ∙ ap (digits_value 10) (front_take line text count front within);
    }

-- a line is its sign, if it has one, and the digits behind it
sign_before : (line : List ℕ) → without_leading_sign line ≡ drop (length line - length (without_leading_sign line)) line
sign_before [] = refl
sign_before (c ∷ cs) = grind (arith)

sign_is : (line : List ℕ) (k : ℕ) → k < length line - length (without_leading_sign line) → IsSigned (get_or line k 0)
sign_is [] k h = absurd (omega arith)
sign_is (c ∷ cs) zero h = grind (arith, nat_tests)
sign_is (c ∷ cs) (suc k) h = grind (arith)

-- so is its front, with the same sign
front_digits : (line : List ℕ) (count size : ℕ) → 0 < count → size ≡ length line - length (without_leading_sign line) + count → without_leading_sign (take size line) ≡ take count (without_leading_sign line)
front_digits line zero size some whole = absurd (omega arith)
front_digits [] (suc count) size some whole = ap without_leading_sign (take_all size [] (omega arith))
front_digits (c ∷ cs) (suc count) zero some whole = absurd (omega arith)
front_digits (c ∷ cs) (suc count) (suc size) some whole = by (c == 45) (c == 43) refl refl whole
  where
    by : (minus plus : Bool) → (c == 45) ≡ minus → (c == 43) ≡ plus → suc size ≡ length (c ∷ cs) - length (without_leading_sign (c ∷ cs)) + suc count
        → without_leading_sign (c ∷ take size cs) ≡ take (suc count) (without_leading_sign (c ∷ cs))
    by true plus e f w = let n : size ≡ suc count = omega (arith, rw e at w) in rw (n, e) refl
    by false true e f w = let n : size ≡ suc count = omega (arith, rw (e, f) at w) in rw (n, e, f) refl
    by false false e f w = let n : size ≡ count = omega (arith, rw (e, f) at w) in rw (n, e, f) refl

front_minus : (line : List ℕ) (size : ℕ) → 0 < size → starts_with_minus (take size line) ≡ starts_with_minus line
front_minus line zero some = absurd (omega arith)
front_minus [] (suc size) some = refl
front_minus (c ∷ cs) (suc size) some = refl

-- a line that begins with so many digits behind an optional sign, and then ends or goes on with a comma
pub plain_is : (line : List ℕ) (value count size : ℕ) → 0 < count → AreLeadingDigits 18 (without_leading_sign line) value count
    → size ≡ length line - length (without_leading_sign line) + count → (size < length line → get_or line size 0 ≡ 44)
    → IsPlainField line (signed_by (starts_with_minus line) value) size
plain_is line value count size some led whole comma =
    let rest = without_leading_sign line in
    let sign = length line - length rest in
    let field = take size line in
    let behind = ap length (sign_before line) ∙ length-drop sign line in
    let inside : size ≤ length line = omega (arith, leading_inside 18 rest count led.all, behind) in
    let long = length-take-le size line inside in
    let digits : take count rest ≡ without_leading_sign field = sym (front_digits line count size some whole) in
    let are = leading_digits-are 18 rest count led.all in
    let each : (k : ℕ) → k < size → IsSigned (get_or line k 0) = λ k h. elim (cases_lt k sign) [
      | inl before ↦ sign_is line k before
      | inr past ↦ subst IsSigned (ap (λ l. get_or l (k - sign) 0) (sign_before line) ∙ get_or-drop sign line (k - sign) 0 ∙ ap (λ n. get_or line n 0) (omega arith))
          (digit_signed _ (leading_are 18 rest count led.all (k - sign) (omega arith)))
    ] in
    let plain = λ (k : ℕ) (h : k < size). ap is_blank (get_or-take size line k 0 h) ∙ not_blank _ (each k h) in
    let blanks = no_blanks field (omega (arith, long)) (plain 0 (omega arith)) (plain (length field - 1) (omega (arith, long))) in
    let reads = field_reads field (take count rest) value digits (omega (arith, length-take-le count rest (leading_inside 18 rest count led.all))) are blanks led.reads (leading_small rest value count led) in
    field_ends line (signed_by (starts_with_minus line) value) size (omega arith) inside (rw (front_minus line size (omega arith)) at reads) each comma

pub front_length : (line text : List ℕ) → IsFront line text → length line ≤ length text
front_length line text front = omega (arith, ap length front, length-take (length line) text)

-- behind so many bytes of both
pub behind_front : (line text : List ℕ) (size : ℕ) → size ≤ length line → IsFront line text → IsFront (drop size line) (drop size text)
behind_front line text size inside front =
    let more = length line - size in
    ap (drop size) (front ∙ ap (λ n. take n text) {x = length line} {y = size + more} (omega arith)) ∙ drop-take size more text
    ∙ ap (λ n. take n (drop size text)) {x = more} {y = length (drop size line)} (omega (arith, length-drop size line))

-- what stands behind a line's sign is the front of what stands behind as many bytes of the text
pub without_sign_front : (line text digits : List ℕ) → digits ≡ without_leading_sign line → IsFront line text
    → let sign = length line - length digits in IsFront digits (take (length text - sign) (drop sign text))
without_sign_front line text digits is front = grind (arith, sign_before, take_rest, behind_front)
