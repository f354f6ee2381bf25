-- The key law: keys compare rows as scores do; and the product of the keys that lead a preference without a priority is its order.
use Rattle.pref_term.proofs.Common.{◌≡◌, ◌<◌, ℤ, pos, Bool, true, not, List, [], ◌∷◌, ◌++◌, refl, sym, ap, subst, ◌∙◌, arith, ◌^◌, ◌-ℤ◌, ◌+ℤ◌, neg_ℤ, unsigned_abs}
use Rattle.pref_term.proofs.Common.{All, false≢true, ints, All-append, All-cons, All-nil, missed, outside, score, sets_before, ReadsBelow, column, by_key, by_keys, is_number}
use Rattle.pref_term.proofs.Common.{is_product, key_for, leading, opposed, and_parts, Base, Preference, scored, pareto, prior, reverse, by_scores}
use Rattle.pref_term.proofs.Common.{in_priority, in_product, Key, Relation, Same}
use Rattle.pref_term.proofs.Common.{find, int_eq, list_any}
use Rattle.std.specs.Prelude.{◌||◌}
use Rattle.std.specs.Option.{option_map_or}
use Rattle.pref_term.specs.Walk.{directed}

raised : (x y : ℤ) → by_scores (x +ℤ pos (2 ^ 63)) (y +ℤ pos (2 ^ 63)) ≡ by_scores x y
raised x y = grind (arith, ints)

pub turned : (x y : ℤ) → by_scores (opposed true x) (opposed true y) ≡ by_scores y x
turned x y = grind (arith, ints)

negated : (x y : ℤ) → by_scores (neg_ℤ x) (neg_ℤ y) ≡ by_scores y x
negated x y = grind (arith, ints)

-- a distance from a centre is one from a range of one value
pub centred : (c v : ℤ) → outside c c v ≡ pos (unsigned_abs (v -ℤ c))
centred c v = grind (arith, ints)

-- one set is a list of sets
one_missed : (set : List ℤ) (v : ℤ) → pos (sets_before (set ∷ []) v) ≡ missed set v
one_missed set v = grind (arith, ints)

-- where the keys of a base term compare rows as its scores do, those of its converse do so too
both_ways : (t : Base) (x y : ℤ) (a b : List ℤ) → by_scores x y ≡ by_scores (score t a) (score t b) → by_scores y x ≡ by_scores (score t b) (score t a)
    → (s : Bool) → by_scores (opposed s x) (opposed s y) ≡ directed s (scored t) a b
both_ways t x y a b h k s = grind (arith, turned)

-- the key law
pub key_law : (t : Base) (s : Bool) (a b : List ℤ) → by_key (key_for t s) a b ≡ directed s (scored t) a b
key_law t s a b = grind (arith, both_ways, raised, turned, negated, centred, one_missed)

-- ---- converses

pub directed_priority : (s : Bool) (p q : Preference) (a b : List ℤ) → directed s (prior p q) a b ≡ in_priority (directed s p a b) (directed s q a b)
directed_priority s p q a b = grind arith

pub directed_product : (s : Bool) (p q : Preference) (a b : List ℤ) → directed s (pareto p q) a b ≡ in_product (directed s p a b) (directed s q a b)
directed_product s p q a b = grind arith

pub directed_reverse : (s : Bool) (p : Preference) (a b : List ℤ) → directed (not s) p a b ≡ directed s (reverse p) a b
directed_reverse s p a b = grind arith

-- ---- the keys that lead a preference

pub key_column : (t : Base) (s : Bool) → (key_for t s).col ≡ column t
key_column t s = grind arith

-- they read its columns
pub leading_in_row : (p : Preference) (s : Bool) → ReadsBelow 16 p → All (λ key. key.col < 16) (leading p s)
leading_in_row (scored t) s h = All-cons (λ key. key.col < 16) (key_for t s) [] (subst (λ n. n < 16) (sym (key_column t s)) h) (All-nil (λ key. key.col < 16))
leading_in_row (pareto p q) s h = All-append (λ key. key.col < 16) (leading p s) (leading q s) (leading_in_row p s h.0) (leading_in_row q s h.1)
leading_in_row (prior p q) s h = leading_in_row p s h.0
leading_in_row (reverse p) s h = leading_in_row p (not s) h

-- those of a product have no sets
pub leading_numbers : (p : Preference) (s : Bool) → is_product p ≡ true → All (λ key. is_number key.score ≡ true) (leading p s)
leading_numbers (scored t) s h = grind (arith)
leading_numbers (pareto p q) s h = grind (arith, h, and_parts, All-append (λ key. is_number key.score ≡ true) (leading p s) (leading q s), leading_numbers p s, leading_numbers q s)
leading_numbers (prior p q) s h = absurd (false≢true h)
leading_numbers (reverse p) s h = leading_numbers p (not s) h

pub product-assoc : (r s t : Relation) → in_product (in_product r s) t ≡ in_product r (in_product s t)
product-assoc r s t = grind arith

pub product_same : (r : Relation) → in_product r Same ≡ r
product_same r = grind arith

keys-append : (xs ys : List Key) (a b : List ℤ) → by_keys (xs ++ ys) a b ≡ in_product (by_keys xs a b) (by_keys ys a b)
keys-append [] ys a b = refl
keys-append (x ∷ xs) ys a b = ap (in_product (by_key x a b)) (keys-append xs ys a b) ∙ sym (product-assoc (by_key x a b) (by_keys xs a b) (by_keys ys a b))

-- of a product they are the whole order
pub leading_law : (p : Preference) (s : Bool) (a b : List ℤ) → is_product p ≡ true → by_keys (leading p s) a b ≡ directed s p a b
leading_law (pareto p q) s a b h = grind (arith, h, keys-append, leading_law p s a b, leading_law q s a b, directed_product)
leading_law (reverse p) s a b h = leading_law p (not s) a b h ∙ directed_reverse s p a b
leading_law p s a b h = grind (arith, product_same, key_law, keys-append, directed_product, false≢true, directed_reverse)

-- ---- sets, each before those behind it

-- whether a set holds one of two values
abbrev pub holds_one : ℤ → ℤ → List ℤ → Bool
holds_one a b set = list_any (int_eq a) set || list_any (int_eq b) set

-- the first set that holds one of two values decides
pub first_decides : (sets : List (List ℤ)) (a b : ℤ)
    → by_scores (pos (sets_before sets a)) (pos (sets_before sets b)) ≡ option_map_or (λ s. by_scores (missed s a) (missed s b)) (find (holds_one a b) sets) Same
first_decides [] a b = refl
first_decides (set ∷ sets) a b = grind (arith, ints, first_decides sets a b)
