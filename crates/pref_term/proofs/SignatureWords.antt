-- Words of bits: where each bit of a list is one of another, the word of the first is within that of the second.
use Rattle.pref_term.proofs.Common.{◌≡◌, ◌+◌, ◌<◌, ◌≤◌, ◌*◌, ◌^◌, ◌%◌, ◌/◌, ℕ, List, [], ◌∷◌, ◌++◌, map, Bool, true, refl, ◌∙◌, arith, eq-eqb, w64, All, bit_and}
use Rattle.pref_term.proofs.Common.{flat_map, All-head, All-tail, bit_not, from_bool, is_within, signed_onto, with_bit}
use Rattle.std.proofs.lemmas.Nat.{and_mod}
use Rattle.std.specs.Int.Bits.{and_step, and_zero_l}
use Rattle.pref_term.proofs.SignatureMarks.{bit_behind}

bool_le : (b c : Bool) → (b ≡ true → c ≡ true) → from_bool b ≤ from_bool c
bool_le b c h = grind arith

-- one more bit on each
within_more : (x y b c : ℕ) → y < 2 ^ 64 → c ≤ 1 → b ≤ c → bit_and x (bit_not w64 y) ≡ 0 → bit_and ((x * 2 + b) % 2 ^ 64) (bit_not w64 ((y * 2 + c) % 2 ^ 64)) ≡ 0
within_more x y b c small one step within =
    let first : (x * 2 + b) % 2 ^ 64 / 2 ≡ x % 2 ^ 63 = omega arith in
    let second : bit_not w64 ((y * 2 + c) % 2 ^ 64) / 2 ≡ bit_not w64 y % 2 ^ 63 = omega arith in
    let high : bit_and ((x * 2 + b) % 2 ^ 64 / 2) (bit_not w64 ((y * 2 + c) % 2 ^ 64) / 2) ≡ bit_and (x % 2 ^ 63) (bit_not w64 y % 2 ^ 63) = λ i. bit_and (first i) (second i) in
    omega (arith, and_step ((x * 2 + b) % 2 ^ 64) (bit_not w64 ((y * 2 + c) % 2 ^ 64)), and_mod x (bit_not w64 y) 63, high, within)

-- ---- lists of bits

-- each bit that is set in the first list is set in the second, which is as long
pub Implied : List Bool → List Bool → Type 0
Implied [] [] = Unit {0}
Implied [] (c ∷ cs) = ⊥
Implied (b ∷ bs) [] = ⊥
Implied (b ∷ bs) (c ∷ cs) = (b ≡ true → c ≡ true) × Implied bs cs

pub implied_map : {E : Type 0} (f g : E → Bool) → ((x : E) → f x ≡ true → g x ≡ true) → (xs : List E) → Implied (map f xs) (map g xs)
unfolding Implied
implied_map f g each [] = tt
implied_map f g each (x ∷ xs) = (each x, implied_map f g each xs)

implied_append : (xs bs ys cs : List Bool) → Implied xs bs → Implied ys cs → Implied (xs ++ ys) (bs ++ cs)
unfolding Implied
implied_append (x ∷ xs) (b ∷ bs) ys cs h k = (h.0, implied_append xs bs ys cs h.1 k)
implied_append xs bs ys cs h k = grind (arith)

pub implied_flat : {E : Type 0} (P : E → Type 0) (f g : E → List Bool) → ((x : E) → P x → Implied (f x) (g x)) → (xs : List E) → All P xs → Implied (flat_map f xs) (flat_map g xs)
unfolding Implied
implied_flat P f g each [] all_pass = tt
implied_flat P f g each (x ∷ xs) all_pass = grind (arith, implied_flat P f g each xs (All-tail P x xs all_pass), implied_append, All-head, All-tail)

-- where each bit of a list is set in another, the word of the first is within that of the second
signed_more : (bs cs : List Bool) → Implied bs cs → (x y : ℕ) → y < 2 ^ 64 → bit_and x (bit_not w64 y) ≡ 0 → bit_and (signed_onto x bs) (bit_not w64 (signed_onto y cs)) ≡ 0
unfolding Implied
signed_more (b ∷ bs) (c ∷ cs) h x y small within =
    let both : bit_and (with_bit x b) (bit_not w64 (with_bit y c)) ≡ 0 = (λ i. bit_and (bit_behind x b i) (bit_not w64 (bit_behind y c i))) ∙ within_more x y (from_bool b) (from_bool c) small (grind arith) (bool_le b c h.0) within in
    signed_more bs cs h.1 (with_bit x b) (with_bit y c) (omega (arith, bit_behind y c)) both
signed_more bs cs h x y small within = grind (arith)

pub signed_within : (bs cs : List Bool) → Implied bs cs → is_within (signed_onto 0 bs) (signed_onto 0 cs) ≡ true
signed_within bs cs h = eq-eqb _ 0 (signed_more bs cs h 0 0 (omega arith) (and_zero_l (bit_not w64 0)))

-- bits are put behind a word one list after the other
pub signed_onto_append : (word : ℕ) (bs cs : List Bool) → signed_onto word (bs ++ cs) ≡ signed_onto (signed_onto word bs) cs
signed_onto_append word [] cs = refl
signed_onto_append word (b ∷ bs) cs = signed_onto_append (with_bit word b) bs cs
