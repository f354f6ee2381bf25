-- Eight bytes of a text at once: how many of them are digits before another byte, and the value of these.
use Rattle.pref_table.proofs.Common.{◌≡◌, ℕ, zero, suc, ◌+◌, ◌-◌, ◌*◌, ◌^◌, ◌<◌, ◌≤◌, Bool, true, not, List, [], ◌∷◌, length, take, drop, get_or, map, refl, sym, ap, subst, ◌∙◌, arith, ◌==◌, if◌then◌else◌}
use Rattle.pref_table.proofs.Common.{add-zero, eqb-true, digits_value, get_or-drop, length-drop, length-map, le-ltb, lt-ltb, nat_lt, inl, inr}
use Rattle.std.proofs.Common.{◌/◌, ◌%◌, Fits, w8, bit_and}
use Rattle.std.proofs.Math.Nat.{mul-le-mul_right, pow-le-pow_right, pow-suc}
use Rattle.std.proofs.lemmas.Nat.{pow-add}
use Rattle.std.specs.Char.{digit_value, is_ascii_digit}
use Rattle.std.proofs.lemmas.Bool.{agree_below, agree_below_at, cases_lt}
use Rattle.std.proofs.lemmas.Int.Digits.{digits_value_more}
use Rattle.std.proofs.lemmas.Nat.{and_block, and_mask}
use Rattle.std.proofs.lemmas.Simd.{first_set_mask_l, length-chunk, map-map, mask_l-mod, run_in_chunk_fails, run_in_chunk_le, run_in_chunk_stops}
use Rattle.std.specs.Int.{trailing_zeros, w64}
use Rattle.std.specs.List.{prefix_len}
use Rattle.std.specs.Simd.Lanes.{chunk, mask_l, top}
use Rattle.pref_table.specs.Digits.{digit_at, eight_bytes, eight_digits}
use Rattle.pref_table.specs.Fields.{AreLeadingDigits}
use Rattle.pref_table.proofs.LeadingFacts.{AreDigits, IsDigit, digit_is, leading_are, leading_below, leading_few, leading_inside, leading_is, leading_stops}
use Rattle.pref_table.proofs.NumberFacts.{digit_value-of}

-- ---- how many are digits

module _ (text lanes : List ℕ) (lane : ℕ → ℕ) (count : ℕ) (room : 8 ≤ length text) (fits : (k : ℕ) → Fits w8 (get_or text k 0))
    (are : lanes ≡ map lane (chunk 0 8 text)) (found : let bits = mask_l (map (top 7) lanes) % 2 ^ 64 in count ≡ (if bits == 0 then 8 else trailing_zeros w64 bits)) where
  abbrev other : ℕ → Bool
  other byte = top 7 (lane byte)

  counted : count ≡ prefix_len (λ byte. not (other byte)) (chunk 0 8 text)
  counted =
      let front = chunk 0 8 text in
      let long : length front ≡ 8 = length-chunk 0 8 text room in
      let bits : mask_l (map (top 7) lanes) % 2 ^ 64 ≡ mask_l (map other front) =
      ap (λ l. mask_l (map (top 7) l) % 2 ^ 64) are ∙ ap (λ l. mask_l l % 2 ^ 64) (map-map (top 7) lane front) ∙ mask_l-mod (map other front) 64 (omega (arith, length-map front other, long)) in
      found ∙ ap (λ b. if b == 0 then 8 else trailing_zeros w64 b) bits ∙ first_set_mask_l other front 8 long (omega arith)

  -- where the lanes stop at those bytes that are no digits
  pub digits_counted : agree_below (λ byte. not (other byte)) is_ascii_digit 256 ≡ true → count ≡ prefix_len is_ascii_digit (take 8 text)
  digits_counted agree =
      let few = run_in_chunk_le other text 0 8 count 0 room counted in
      let same = λ (k : ℕ). agree_below_at (λ byte. not (other byte)) is_ascii_digit 256 (get_or text k 0) agree (fits k).fits in
      leading_is 8 text count few (omega (arith, few))
      (λ k early. digit_is (get_or text k 0) (sym (same k) ∙ ap not (run_in_chunk_fails other text 0 8 count 0 room counted k (omega arith) (omega arith))))
      (λ less _. sym (same count) ∙ ap not (subst (λ k. other (get_or text k 0) ≡ true) {x = 0 + count} {y = count} (omega arith) (run_in_chunk_stops other text 0 8 count 0 room counted less)))

-- ---- the value of eight digits

-- the lower byte of each of four pairs
lower_bytes : (a b c d : ℕ) → a < 2 ^ 16 → b < 2 ^ 16 → c < 2 ^ 16 → d < 2 ^ 16
    → bit_and (a + 2 ^ 16 * b + 2 ^ 32 * c + 2 ^ 48 * d) 71777214294589695 ≡ a % 2 ^ 8 + 2 ^ 16 * (b % 2 ^ 8) + 2 ^ 32 * (c % 2 ^ 8) + 2 ^ 48 * (d % 2 ^ 8)
lower_bytes a b c d ha hb hc hd =
    let first = and_block 16 (b + 2 ^ 16 * c + 2 ^ 32 * d) (255 + 2 ^ 16 * 255 + 2 ^ 32 * 255) a 255 ha (omega arith) in
    let second = and_block 16 (c + 2 ^ 16 * d) (255 + 2 ^ 16 * 255) b 255 hb (omega arith) in
    let third = and_block 16 d 255 c 255 hc (omega arith) in
    let whole : a + 2 ^ 16 * b + 2 ^ 32 * c + 2 ^ 48 * d ≡ (b + 2 ^ 16 * c + 2 ^ 32 * d) * 2 ^ 16 + a = omega arith in
    let behind : b + 2 ^ 16 * c + 2 ^ 32 * d ≡ (c + 2 ^ 16 * d) * 2 ^ 16 + b = omega arith in
    let last : c + 2 ^ 16 * d ≡ d * 2 ^ 16 + c = omega arith in
    ap (λ n. bit_and n 71777214294589695) whole ∙ first
    ∙ omega (arith, ap (λ n. bit_and n (255 + 2 ^ 16 * 255 + 2 ^ 32 * 255)) behind ∙ second, ap (λ n. bit_and n (255 + 2 ^ 16 * 255)) last ∙ third, and_mask a 8, and_mask b 8, and_mask c 8, and_mask d 8)

-- the lower half of each of two
lower_halves : (a b : ℕ) → a < 2 ^ 32 → b < 2 ^ 32 → bit_and (a + 2 ^ 32 * b) 281470681808895 ≡ a % 2 ^ 16 + 2 ^ 32 * (b % 2 ^ 16)
lower_halves a b ha hb =
    let whole : a + 2 ^ 32 * b ≡ b * 2 ^ 32 + a = omega arith in
    ap (λ n. bit_and n 281470681808895) whole ∙ and_block 32 b 65535 a 65535 ha (omega arith) ∙ omega (arith, and_mask a 16, and_mask b 16)

pairs_of : (a b c d e f g h : ℕ) → a < 10 → b < 10 → c < 10 → d < 10 → e < 10 → f < 10 → g < 10 → h < 10
    → bit_and ((a + 2 ^ 8 * b + 2 ^ 16 * c + 2 ^ 24 * d + 2 ^ 32 * e + 2 ^ 40 * f + 2 ^ 48 * g + 2 ^ 56 * h) * 2561 % 2 ^ 64 / 2 ^ 8) 71777214294589695
    ≡ (10 * a + b) + 2 ^ 16 * (10 * c + d) + 2 ^ 32 * (10 * e + f) + 2 ^ 48 * (10 * g + h)
pairs_of a b c d e f g h ha hb hc hd he hf hg hh =
    let sums : (a + 2 ^ 8 * b + 2 ^ 16 * c + 2 ^ 24 * d + 2 ^ 32 * e + 2 ^ 40 * f + 2 ^ 48 * g + 2 ^ 56 * h) * 2561 % 2 ^ 64 / 2 ^ 8
    ≡ ((10 * a + b) + 2 ^ 8 * (10 * b + c)) + 2 ^ 16 * ((10 * c + d) + 2 ^ 8 * (10 * d + e)) + 2 ^ 32 * ((10 * e + f) + 2 ^ 8 * (10 * f + g)) + 2 ^ 48 * (10 * g + h) = omega arith in
    ap (λ n. bit_and n 71777214294589695) sums
    ∙ lower_bytes ((10 * a + b) + 2 ^ 8 * (10 * b + c)) ((10 * c + d) + 2 ^ 8 * (10 * d + e)) ((10 * e + f) + 2 ^ 8 * (10 * f + g)) (10 * g + h) (omega arith) (omega arith) (omega arith) (omega arith)
    ∙ omega arith

fours_of : (a b c d : ℕ) → a < 100 → b < 100 → c < 100 → d < 100
    → bit_and ((a + 2 ^ 16 * b + 2 ^ 32 * c + 2 ^ 48 * d) * 6553601 % 2 ^ 64 / 2 ^ 16) 281470681808895 ≡ (100 * a + b) + 2 ^ 32 * (100 * c + d)
fours_of a b c d ha hb hc hd =
    let sums : (a + 2 ^ 16 * b + 2 ^ 32 * c + 2 ^ 48 * d) * 6553601 % 2 ^ 64 / 2 ^ 16 ≡ ((100 * a + b) + 2 ^ 16 * (100 * b + c)) + 2 ^ 32 * (100 * c + d) = omega arith in
    ap (λ n. bit_and n 281470681808895) sums ∙ lower_halves ((100 * a + b) + 2 ^ 16 * (100 * b + c)) (100 * c + d) (omega arith) (omega arith) ∙ omega arith

all_of : (a b : ℕ) → a < 10000 → b < 10000 → (a + 2 ^ 32 * b) * 42949672960001 % 2 ^ 64 / 2 ^ 32 ≡ 10000 * a + b
all_of a b ha hb = omega arith

pub value_of_digits : (digit : ℕ → ℕ) (digits : ℕ) → ((k : ℕ) → k < 8 → digit k < 10) → digits ≡ eight_bytes digit
    → bit_and (bit_and (digits * 2561 % 2 ^ 64 / 2 ^ 8) 71777214294589695 * 6553601 % 2 ^ 64 / 2 ^ 16) 281470681808895 * 42949672960001 % 2 ^ 64 / 2 ^ 32 ≡ eight_digits digit
value_of_digits digit digits small are = grind (arith, pairs_of, fours_of, all_of)

-- ---- the value of those at the front

one_more : (value front back power digit : ℕ) → value ≡ front * power + back → value * 10 + digit ≡ front * (power * 10) + (back * 10 + digit)
one_more value front back power digit is = grind (arith)

one_more_of : (value power : ℕ) → (value + 1) * power ≡ value * power + power
one_more_of value power = grind (arith)

pub room_for : (value more power : ℕ) → value < 10 ^ 8 → more < power → value * power + more < 10 ^ 8 * power
room_for value more power below few = omega (arith, mul-le-mul_right {m = value + 1} {n = 10 ^ 8} power (omega arith), one_more_of value power)

module _ (byte : ℕ → ℕ) (count : ℕ) where
  digit_last : digit_at byte (suc count) 7 ≡ byte count - 48
  digit_last = ap (λ n. if nat_lt n 8 then 0 else byte (n - 8) - 48) {x = 7 + suc count} {y = count + 8} (omega arith) ∙ rw (le-ltb (count + 8) 8 (omega arith)) (ap (λ n. byte n - 48) {x = count + 8 - 8} {y = count} (omega arith))

  digit_first : count < 8 → digit_at byte count 0 ≡ 0
  digit_first few = ap (λ n. if nat_lt n 8 then 0 else byte (n - 8) - 48) {x = 0 + count} {y = count} (omega arith) ∙ rw (lt-ltb count 8 few) refl

pub digit_below : (byte : ℕ → ℕ) (count : ℕ) → count ≤ 8 → ((k : ℕ) → k < count → IsDigit (byte k)) → (k : ℕ) → k < 8 → digit_at byte count k < 10
digit_below byte count few are k early = grind (arith, cases_lt)

module _ (text : List ℕ) where
  value_next : (k : ℕ) → k < length text → IsDigit (get_or text k 0) → digits_value 10 (take (k + 1) text) ≡ 10 * digits_value 10 (take k text) + (get_or text k 0 - 48)
  value_next k inside digit = grind (arith, digits_value_more, digit_value-of)

  -- the digits so far, and more behind them
  value_joined : (n c : ℕ) → n + c ≤ length text → digits_value 10 (take (n + c) text) ≡ digits_value 10 (take n text) * 10 ^ c + digits_value 10 (take c (drop n text))
  value_joined n zero inside = rw (add-zero n) (omega arith)
  value_joined n (suc c) inside =
      let digit = digit_value (get_or text (n + c) 0) in
      let front = digits_value 10 (take n text) in
      let before = digits_value 10 (take (n + c) text) in
      let behind = digits_value 10 (take c (drop n text)) in
      let whole : digits_value 10 (take (n + suc c) text) ≡ before * 10 + digit =
      ap (λ k. digits_value 10 (take k text)) {x = n + suc c} {y = n + c + 1} (omega arith) ∙ digits_value_more 10 text (n + c) (omega arith) in
      let more : digits_value 10 (take (suc c) (drop n text)) ≡ behind * 10 + digit =
      ap (λ k. digits_value 10 (take k (drop n text))) {x = suc c} {y = c + 1} (omega arith) ∙ digits_value_more 10 (drop n text) c (omega (arith, length-drop n text)) ∙ ap (λ d. behind * 10 + digit_value d) (get_or-drop n text c 0) in
      let power : front * 10 ^ suc c ≡ front * (10 ^ c * 10) = ap (λ p. front * p) (pow-suc 10 c) in
      omega (arith, whole, more, power, one_more before front behind (10 ^ c) digit (value_joined n c (omega arith)))

  -- one digit more moves the others up by one place
  digits_next : (byte : ℕ → ℕ) (count : ℕ) → count < 8 → eight_digits (digit_at byte (suc count)) ≡ 10 * eight_digits (digit_at byte count) + (byte count - 48)
  digits_next byte count few = grind (arith, digit_last, digit_first)

  -- what these digits write
  pub value_of_front : (count : ℕ) → count ≤ 8 → count ≤ length text → AreDigits text count → eight_digits (digit_at (λ k. get_or text k 0) count) ≡ digits_value 10 (take count text)
  value_of_front zero few inside are = refl
  value_of_front (suc count) few inside are =
      let before = value_of_front count (omega arith) (omega arith) (λ k h. are k (omega arith)) in
      let digit = are count (omega arith) in
      let next = digits_next (λ k. get_or text k 0) count (omega arith) in
      let whole = ap (λ k. digits_value 10 (take k text)) {x = suc count} {y = count + 1} (omega arith) ∙ value_next count (omega arith) digit in
      omega (arith, next, before, whole)

  module _ (value more count : ℕ) (first : AreLeadingDigits 8 text value 8) (behind : AreLeadingDigits 8 (drop 8 text) more count) where
    -- there is room for all of them
    pub both_below : value * 10 ^ count + more < 10 ^ 16
    both_below =
        let few = leading_few 8 (drop 8 text) count behind.all in
        let small : value < 10 ^ 8 = omega (arith, first.reads, leading_below 8 text 8 first.all) in
        let less : more < 10 ^ count = omega (arith, behind.reads, leading_below 8 (drop 8 text) count behind.all) in
        omega (arith, room_for value more (10 ^ count) small less, pow-add 10 8 count, pow-le-pow_right {n = 10} (omega arith) few)

    pub both_lead : AreLeadingDigits 16 text (value * 10 ^ count + more) (8 + count)
    both_lead =
        let few = leading_few 8 (drop 8 text) count behind.all in
        let eight = leading_inside 8 text 8 first.all in
        let inside = leading_inside 8 (drop 8 text) count behind.all in
        let size = length-drop 8 text in
        record {
          all = leading_is 16 text (8 + count) (omega arith) (omega (arith, size))
              (λ k h. elim (cases_lt k 8) [
                | inl early ↦ leading_are 8 text 8 first.all k early
                | inr late ↦ subst IsDigit (get_or-drop 8 text (k - 8) 0 ∙ ap (λ j. get_or text j 0) (omega arith)) (leading_are 8 (drop 8 text) count behind.all (k - 8) (omega arith))
              ])
              (λ less within. ap is_ascii_digit (sym (get_or-drop 8 text count 0)) ∙ leading_stops 8 (drop 8 text) count behind.all (omega arith) (omega (arith, size)));
          reads = omega (arith, value_joined 8 count (omega (arith, size)), first.reads, behind.reads, ap (λ v. v * 10 ^ count) first.reads);
        }

abbrev powers : List ℕ
powers = 1 ∷ 10 ∷ 100 ∷ 1000 ∷ 10000 ∷ 100000 ∷ 1000000 ∷ 10000000 ∷ 100000000 ∷ []

pub power_is : (count : ℕ) → count ≤ 8 → get_or powers count 0 ≡ 10 ^ count
power_is count few = eqb-true _ _ (agree_below_at (λ k. get_or powers k 0 == 10 ^ k) (λ _. true) 9 count refl (omega arith))
