-- The digits that a text begins with, by their places.
use Rattle.pref_table.proofs.Common.{◌≡◌, ℕ, ◌+◌, ◌-◌, ◌*◌, ◌^◌, ◌<◌, ◌≤◌, true, false, List, [], ◌∷◌, length, take, get_or, refl, sym, ap, ◌∙◌, arith, suc, digits_value, all_ascii_digits, prefix_len}
use Rattle.pref_table.proofs.Common.{below_more, get_or-take, inl, inr, length-take, length-take-le, le-leb}
use Rattle.std.proofs.Math.Nat.{pow-le-pow_right}
use Rattle.std.proofs.lemmas.Bool.{cases_lt}
use Rattle.std.proofs.lemmas.Bool.Decides.{nat_tests}
use Rattle.std.proofs.lemmas.Int.Digits.{digits_value_more}
use Rattle.std.proofs.lemmas.List.Sums.{prefix_len-le-length, prefix_len_is, prefix_len_passes, prefix_len_stops}
use Rattle.std.proofs.lemmas.Str.Parse.{digits_value_short, numerals_by_value, tells_all_ascii_digits}
use Rattle.std.specs.Char.{is_ascii_digit}
use Rattle.pref_table.specs.Fields.{AreLeadingDigits}
use Rattle.pref_table.proofs.NumberFacts.{digit_value-of}

abbrev pub IsDigit : ℕ → Type 0
IsDigit byte = (48 ≤ byte) × (byte < 58)

abbrev pub AreDigits : List ℕ → ℕ → Type 0
AreDigits text count = (k : ℕ) → k < count → IsDigit (get_or text k 0)

-- a byte that is no digit stands behind so many, where one stands there and there are fewer than are looked at
abbrev pub StopsAt : ℕ → List ℕ → ℕ → Type 0
StopsAt most text count = count < most → count < length text → is_ascii_digit (get_or text count 0) ≡ false

pub digit_test : (byte : ℕ) → IsDigit byte → is_ascii_digit byte ≡ true
digit_test byte (low, high) = rw (le-leb 48 byte low, le-leb byte 57 (omega arith)) refl

pub digit_is : (byte : ℕ) → is_ascii_digit byte ≡ true → IsDigit byte
digit_is byte test = grind (arith, nat_tests)

pub all_digits : (ds : List ℕ) → AreDigits ds (length ds) → all_ascii_digits ds ≡ true
all_digits [] are = refl
all_digits (d ∷ ds) are = rw (digit_test d (are 0 (omega arith)), all_digits ds (λ k h. are (suc k) (omega arith))) refl

module _ (most : ℕ) (text : List ℕ) (count : ℕ) where
  pub leading_is : count ≤ most → count ≤ length text → AreDigits text count → StopsAt most text count → count ≡ prefix_len is_ascii_digit (take most text)
  leading_is few inside are stops =
      let size = length-take most text in
      sym (prefix_len_is is_ascii_digit (take most text) count 0 (omega (arith, size))
      (λ k h. ap is_ascii_digit (get_or-take most text k 0 (omega arith)) ∙ digit_test (get_or text k 0) (are k h))
      (λ h. ap is_ascii_digit (get_or-take most text count 0 (omega (arith, size))) ∙ stops (omega (arith, size)) (omega (arith, size))))

  module _ (all : count ≡ prefix_len is_ascii_digit (take most text)) where
    pub leading_few : count ≤ most
    leading_few = omega (arith, all, prefix_len-le-length is_ascii_digit (take most text), length-take most text)

    pub leading_inside : count ≤ length text
    leading_inside = omega (arith, all, prefix_len-le-length is_ascii_digit (take most text), length-take most text)

    pub leading_are : AreDigits text count
    leading_are k h =
        let passes = prefix_len_passes is_ascii_digit (take most text) k 0 (omega (arith, all)) in
        digit_is (get_or text k 0) (ap is_ascii_digit (sym (get_or-take most text k 0 (omega (arith, leading_few)))) ∙ passes)

    pub leading_stops : StopsAt most text count
    leading_stops less more = grind (arith, prefix_len_stops, length-take, get_or-take)

    pub leading_digits-are : AreDigits (take count text) (length (take count text))
    leading_digits-are k h = grind (arith, length-take-le, leading_inside, get_or-take, leading_are)

    pub leading_below : digits_value 10 (take count text) < 10 ^ count
    leading_below =
        let size = length-take-le count text leading_inside in
        digits_value_short (numerals_by_value (λ ds. all_ascii_digits ds ≡ true) tells_all_ascii_digits) (take count text) count (all_digits (take count text) leading_digits-are) (omega (arith, size))

module _ (text : List ℕ) (value count : ℕ) where
  -- more bytes are looked at, where the digits end before the last that were
  pub leading_ends : (most more : ℕ) → AreLeadingDigits most text value count → most ≤ more → (count ≡ most → StopsAt more text count) → AreLeadingDigits more text value count
  leading_ends most more led within ends =
      let few = leading_few most text count led.all in
      record {
        all = leading_is more text count (omega (arith, few)) (leading_inside most text count led.all) (leading_are most text count led.all)
            (λ less inside. elim (cases_lt count most) [
              | inl before ↦ leading_stops most text count led.all before inside
              | inr past ↦ ends (omega (arith, few, past)) less inside
            ]);
        reads = led.reads;
      }

  -- one digit more
  pub leading_next : AreLeadingDigits count text value count → count < length text → IsDigit (get_or text count 0) → (new : ℕ) → new ≡ 10 * value + (get_or text count 0 - 48)
      → AreLeadingDigits (count + 1) text new (count + 1)
  leading_next led inside digit new is =
      record {
        all = leading_is (count + 1) text (count + 1) (omega arith) (omega arith) (below_more (λ k. IsDigit (get_or text k 0)) count (leading_are count text count led.all) digit) (λ less. absurd (omega arith));
        reads = let reads = led.reads in grind (arith, digits_value_more, digit_value-of);
      }

pub leading_small : (text : List ℕ) (value count : ℕ) → AreLeadingDigits 18 text value count → value < 10 ^ 18
leading_small text value count led =
    let few = leading_few 18 text count led.all in
    omega (arith, led.reads, leading_below 18 text count led.all, pow-le-pow_right {n = 10} (omega arith) few)

-- so many digits have room for one more in 64 bits
pub leading_room : (text : List ℕ) (value count : ℕ) → AreLeadingDigits count text value count → count ≤ 17 → value < 10 ^ 17
leading_room text value count led few = omega (arith, led.reads, leading_below count text count led.all, pow-le-pow_right {n = 10} (omega arith) few)
