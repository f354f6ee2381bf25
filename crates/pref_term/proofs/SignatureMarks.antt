-- A scale's bits of a number: ones for the marks that it reaches, which come first, and then zeros.
use Rattle.pref_term.proofs.Common.{◌≡◌, ◌<◌, ◌≤◌, ◌+◌, ◌-◌, ◌*◌, ◌^◌, ◌%◌, ℕ, suc, pos, List, [], ◌∷◌, map, length, Bool, true, false, not, cond, int_lt, refl, ap, sym, get_or, ◌∙◌, arith, ints}
use Rattle.pref_term.proofs.Common.{from_bool, signed_onto, with_bit}
use Rattle.std.specs.Prelude.{bit_or}
use Rattle.std.specs.List.{count_by}
use Rattle.std.specs.List.Sorted.{IsNonDecreasing}
use Rattle.std.proofs.Math.Nat.{mod-add-mod, pow-le-pow_right, pow-suc}
use Rattle.std.proofs.lemmas.List.Sums.{count_by-le-length, sum_by-cons}
use Rattle.std.proofs.lemmas.Nat.{mul-mod_first, one_shl, or_mod, or_shifted, pow_below, pow_pos}

-- ---- a word with some bits behind it

carried : (x p v m : ℕ) → (x % m * p + v) % m ≡ (x * p + v) % m
carried x p v m = sym (mod-add-mod (x % m * p) m v) ∙ ap (λ y. (y + v) % m) (mul-mod_first x p m) ∙ mod-add-mod (x * p) m v

or_behind : (word k bits : ℕ) → k < 64 → bits < 2 ^ k → bit_or (word * 2 ^ k % 2 ^ 64) bits ≡ (word * 2 ^ k + bits) % 2 ^ 64
or_behind word k bits inside small =
    let whole : bits ≡ bits % 2 ^ 64 = omega (arith, pow_below k 64 inside) in
    ap (bit_or (word * 2 ^ k % 2 ^ 64)) whole ∙ sym (or_mod (word * 2 ^ k) bits 64) ∙ ap (λ n. n % 2 ^ 64) (or_shifted word k bits small)

pub bit_behind : (word : ℕ) (b : Bool) → with_bit word b ≡ (word * 2 + from_bool b) % 2 ^ 64
bit_behind word true = or_behind word 1 1 (omega arith) (omega arith)
bit_behind word false = or_behind word 1 0 (omega arith) (omega arith)

one_more : (word b n v : ℕ) → ((word * 2 + b) * 2 ^ n + v) ≡ (word * 2 ^ suc n + (b * 2 ^ n + v))
one_more word b n v = grind (arith, pow-suc 2 n)

-- ---- the marks beyond a number, of marks in order

abbrev is_beyond : ℕ → ℕ → Bool
is_beyond number mark = int_lt (pos number) (pos mark)

-- how many they are
abbrev pub beyond : ℕ → List ℕ → ℕ
beyond number marks = count_by (is_beyond number) marks

all_beyond : (number : ℕ) (marks : List ℕ) → ((k : ℕ) → k < length marks → number < get_or marks k 0) → beyond number marks ≡ length marks
all_beyond number [] each = refl
all_beyond number (mark ∷ marks) each =
    let first : number < mark = each 0 (omega arith) in
    grind (arith, ints, first, all_beyond number marks (λ k h. each (suc k) (omega arith)), sum_by-cons (λ m. cond (is_beyond number m) 1 0) mark marks)

-- one bit more, where all marks behind one that is beyond the number are so too
bit_more : (b : Bool) (n c word : ℕ) → c ≤ n → (b ≡ true → c ≡ n)
    → (word * 2 + from_bool (not b)) * 2 ^ n + (2 ^ n - 2 ^ c) ≡ word * 2 ^ suc n + (2 ^ suc n - 2 ^ (cond b 1 0 + c))
bit_more true n c word within all =
    let high : 2 ^ (1 + c) ≡ 2 ^ suc n = ap (λ k. 2 ^ k) (omega (arith, all refl)) in
    let low : 2 ^ c ≡ 2 ^ n = ap (λ k. 2 ^ k) (all refl) in
    omega (arith, high, low, one_more word 0 n (2 ^ n - 2 ^ c))
bit_more false n c word within all =
    let low : 2 ^ (0 + c) ≡ 2 ^ c = ap (λ k. 2 ^ k) (omega arith) in
    omega (arith, low, pow-le-pow_right {n = 2} (omega arith) within, pow-suc 2 n, one_more word 1 n (2 ^ n - 2 ^ c))

-- a word with the bits of a number behind it
signed_marks : (number : ℕ) (marks : List ℕ) (word : ℕ) → word < 2 ^ 64 → IsNonDecreasing marks
    → signed_onto word (map (λ mark. not (is_beyond number mark)) marks) ≡ (word * 2 ^ length marks + (2 ^ length marks - 2 ^ beyond number marks)) % 2 ^ 64
signed_marks number [] word small sorted = omega arith
signed_marks number (mark ∷ marks) word small sorted =
    let n = length marks in
    let c = beyond number marks in
    let first = is_beyond number mark in
    let behind = bit_behind word (not first) in
    let later = signed_marks number marks (with_bit word (not first)) (omega (arith, behind)) (λ i j d le lt. sorted (suc i) (suc j) d (omega arith) (omega arith)) in
    let all : first ≡ true → c ≡ n = λ h. all_beyond number marks (λ k inside. let up = sorted 0 (suc k) 0 (omega arith) (omega arith) in grind (arith, ints, h, up)) in
    later
    ∙ ap (λ w. (w * 2 ^ n + (2 ^ n - 2 ^ c)) % 2 ^ 64) behind
    ∙ carried (word * 2 + from_bool (not first)) (2 ^ n) (2 ^ n - 2 ^ c) (2 ^ 64)
    ∙ ap (λ x. x % 2 ^ 64) (bit_more first n c word (count_by-le-length (is_beyond number) marks) all
    ∙ ap (λ k. word * 2 ^ suc n + (2 ^ suc n - 2 ^ k)) (sym (sum_by-cons (λ m. cond (is_beyond number m) 1 0) mark marks)))

pub signed_shifted : (number : ℕ) (marks : List ℕ) (word : ℕ) → word < 2 ^ 64 → length marks < 64 → IsNonDecreasing marks
    → bit_or (word * 2 ^ length marks % 2 ^ 64) (1 * 2 ^ length marks % 2 ^ 64 - 1 * 2 ^ beyond number marks % 2 ^ 64) ≡ signed_onto word (map (λ mark. not (is_beyond number mark)) marks)
signed_shifted number marks word small few sorted =
    let n = length marks in
    let c = beyond number marks in
    let within = count_by-le-length (is_beyond number) marks in
    let bits : 1 * 2 ^ n % 2 ^ 64 - 1 * 2 ^ c % 2 ^ 64 ≡ 2 ^ n - 2 ^ c = omega (arith, one_shl n 64 few, one_shl c 64 (omega (arith, within))) in
    ap (bit_or (word * 2 ^ n % 2 ^ 64)) bits ∙ or_behind word n (2 ^ n - 2 ^ c) few (omega (arith, pow_pos n, pow_pos c)) ∙ sym (signed_marks number marks word small sorted)

-- the subtraction of the zeros' power from that of all
pub zeros_below : (all zeros : ℕ) → all < 64 → zeros ≤ all → 1 * 2 ^ zeros % 2 ^ 64 ≤ 1 * 2 ^ all % 2 ^ 64
zeros_below all zeros few within =
    let two : 0 < 2 = omega arith in
    omega (arith, one_shl all 64 few, one_shl zeros 64 (omega arith), pow-le-pow_right two within)
