-- What is among a list, what tests keep and count of it, where it is cut, and lists in an order.
use Rattle.pref_sky.proofs.Common.{◌≡◌, ℕ, suc, zero, ◌<◌, Bool, true, false, cond, ◌⊎◌, inl, inr, List, [], ◌∷◌, ◌++◌, refl, sym, ◌∙◌, ap, subst, arith, filter, get_or, length, map, list_any, All}
use Rattle.pref_sky.proofs.Common.{false≢true, ◌≤◌, ◌+◌, ◌&&◌, count_by, and_parts, length-filter, sum_by-cons, sum_by-le-sum_by}
use Rattle.pref_sky.proofs.Common.{sum_by, count_by-le-length, Among, take, take_more, drop, append-nil, get_or-drop, filter_more}
use Rattle.pref_sky.proofs.Common.{IsPermutation-sym, Contains-permutation, IsPermutation}
use Rattle.pref_sky.proofs.Common.{sum_by-append, not, IsPartitionedBy, cases_lt}
use Rattle.pref_sky.proofs.Common.{IsChain, IsInOrder, Bor, Called, IsSortedBy, IsSortedByKeyClosure, Mut, always_returns_same, is_lt, nat_cmp, ordering_then}
use Rattle.std.proofs.lemmas.List.Folds.{fold-map, list_any_at, list_any_none}
pub use Rattle.pref_sky.specs.Members.{Among, SameMembers}

-- what stands at a place of a list is among it
pub among_place : {E : Type 0} (xs : List E) (j : ℕ) (d : E) → j < length xs → Among (get_or xs j d) xs
among_place [] j d l = absurd (omega (arith, l))
among_place (x ∷ xs) zero d l = inl refl
among_place (x ∷ xs) (suc j) d l = inr (among_place xs j d (omega (arith, l)))

pub place_of : {E : Type 0} (xs : List E) (x d : E) → Among x xs → (k : ℕ) × (k < length xs) × (get_or xs k d ≡ x)
place_of [] x d m = absurd m
place_of (y ∷ ys) x d m =
    elim m [
      | inl e ↦ (0, omega arith, sym e)
      | inr r ↦ let w = place_of ys x d r in (suc w.0, omega (arith, w.1), w.2)
    ]

-- a test that one of the list passes
pub any_from : {E : Type 0} (p : E → Bool) (xs : List E) (x : E) → Among x xs → p x ≡ true → list_any p xs ≡ true
any_from p xs x m t = let w = place_of xs x x m in list_any_at p xs w.0 x w.1 (ap p w.2 ∙ t)

pub any_gives : {E : Type 0} (p : E → Bool) (xs : List E) → list_any p xs ≡ true → (x : E) × Among x xs × (p x ≡ true)
any_gives p [] h = absurd (false≢true h)
any_gives p (y ∷ ys) h = grind (arith, any_gives p ys)

pub any_none : {E : Type 0} (p : E → Bool) (xs : List E) → ((x : E) → Among x xs → p x ≡ false) → list_any p xs ≡ false
any_none p xs none = list_any_none p xs (λ k d inside. none (get_or xs k d) (among_place xs k d inside))

-- what passes a filter
pub in_filter : {E : Type 0} (p : E → Bool) (xs : List E) (x : E) → Among x xs → p x ≡ true → Among x (filter p xs)
in_filter p [] x m t = m
in_filter p (y ∷ ys) x m t = grind (arith, in_filter p ys x)

pub from_filter : {E : Type 0} (p : E → Bool) (xs : List E) (x : E) → Among x (filter p xs) → Among x xs × (p x ≡ true)
from_filter p [] x m = absurd m
from_filter p (y ∷ ys) x m = grind (arith, from_filter p ys x)

pub filter_shorter : {E : Type 0} (p : E → Bool) (xs : List E) → length (filter p xs) ≤ length xs
filter_shorter p xs = omega (arith, length-filter p xs, count_by-le-length p xs)

-- two tests that agree among a list keep the same of it
pub filter_agree_among : {E : Type 0} (p q : E → Bool) (xs : List E) → ((x : E) → Among x xs → p x ≡ q x) → filter p xs ≡ filter q xs
filter_agree_among p q [] agree = refl
filter_agree_among p q (x ∷ xs) agree = grind (arith, filter_agree_among p q xs (λ y m. agree y (inr m)))

pub none_pass : {E : Type 0} (p : E → Bool) (xs : List E) → ((x : E) → Among x xs → p x ≡ false) → filter p xs ≡ []
none_pass p [] none = refl
none_pass p (x ∷ xs) none = ap (λ b. cond b (x ∷ filter p xs) (filter p xs)) (none x (inl refl)) ∙ none_pass p xs (λ y m. none y (inr m))

pub all_pass : {E : Type 0} (p : E → Bool) (xs : List E) → ((x : E) → Among x xs → p x ≡ true) → filter p xs ≡ xs
all_pass p [] all = refl
all_pass p (x ∷ xs) all = ap (λ b. cond b (x ∷ filter p xs) (filter p xs)) (all x (inl refl)) ∙ ap (λ l. x ∷ l) (all_pass p xs (λ y m. all y (inr m)))

-- what is among two lists joined
pub in_left : {E : Type 0} (xs ys : List E) (x : E) → Among x xs → Among x (xs ++ ys)
in_left [] ys x m = absurd m
in_left (y ∷ xs) ys x m = elim m [ inl e ↦ inl e | inr r ↦ inr (in_left xs ys x r) ]

pub in_right : {E : Type 0} (xs ys : List E) (x : E) → Among x ys → Among x (xs ++ ys)
in_right [] ys x m = m
in_right (y ∷ xs) ys x m = inr (in_right xs ys x m)

pub in_either : {E : Type 0} (xs ys : List E) (x : E) → Among x (xs ++ ys) → Among x xs ⊎ Among x ys
in_either [] ys x m = inr m
in_either (y ∷ xs) ys x m = grind (arith, in_either xs ys x)

-- what is among the results of a function
pub from_map : {E F : Type 0} (f : E → F) (xs : List E) (y : F) → Among y (map f xs) → (x : E) × Among x xs × (y ≡ f x)
from_map f [] y m = absurd m
from_map f (x ∷ xs) y m = elim m [ inl e ↦ (x, inl refl, e) | inr r ↦ let w = from_map f xs y r in (w.0, inr w.1, w.2) ]

pub in_map : {E F : Type 0} (f : E → F) (xs : List E) (x : E) → Among x xs → Among (f x) (map f xs)
in_map f [] x m = absurd m
in_map f (y ∷ ys) x m = elim m [ inl same ↦ inl (ap f same) | inr later ↦ inr (in_map f ys x later) ]

-- what all of a list have, each that is among it has
pub all_among : {E : Type 0} (P : E → Type 0) (xs : List E) → All P xs → (x : E) → Among x xs → P x
all_among P xs all x m = let w = place_of xs x x m in subst P w.2 (all w.0 x w.1)

pub same_answer : (a b : Bool) → (a ≡ true → b ≡ true) → (b ≡ true → a ≡ true) → a ≡ b
same_answer x1 x2 f g = grind (arith)

pub any_filter : {E : Type 0} (p q : E → Bool) (xs : List E) → list_any q (filter p xs) ≡ list_any (λ x. p x && q x) xs
any_filter p q [] = refl
any_filter p q (x ∷ xs) = grind (arith, any_filter p q xs)

pub filter_filter : {E : Type 0} (p q : E → Bool) (xs : List E) → filter q (filter p xs) ≡ filter (λ x. p x && q x) xs
filter_filter p q [] = refl
filter_filter p q (x ∷ xs) = grind (arith, filter_filter p q xs)

-- how many pass a test
pub count_append : {E : Type 0} (p : E → Bool) (xs ys : List E) → count_by p (xs ++ ys) ≡ count_by p xs + count_by p ys
count_append p xs ys = sum_by-append (λ x. cond (p x) 1 0) xs ys

pub count_cons : {E : Type 0} (p : E → Bool) (x : E) (xs : List E) → count_by p (x ∷ xs) ≡ cond (p x) 1 0 + count_by p xs
count_cons p x xs = sum_by-cons (λ y. cond (p y) 1 0) x xs

pub one_passes : {E : Type 0} (p : E → Bool) (xs : List E) (x : E) → Among x xs → p x ≡ true → 1 ≤ count_by p xs
one_passes p [] x m t = absurd m
one_passes p (y ∷ ys) x m t = grind (arith, count_cons p y ys, one_passes p ys x)

-- one list in another order
pub same_if_permuted : {E : Type 0} (xs ys : List E) → IsPermutation xs ys → SameMembers xs ys
same_if_permuted xs ys moved =
    record {
      there = λ x m. let w = Contains-permutation xs ys x moved (place_of xs x x m) in subst (λ y. Among y ys) w.2 (among_place ys w.0 x w.1);
      back = λ x m. let w = Contains-permutation ys xs x (IsPermutation-sym xs ys moved) (place_of ys x x m) in subst (λ y. Among y xs) w.2 (among_place xs w.0 x w.1);
    }

-- where each that passes p passes q, no more pass p
pub count_within : {E : Type 0} (p q : E → Bool) (xs : List E) → ((x : E) → p x ≡ true → q x ≡ true) → count_by p xs ≤ count_by q xs
count_within p q xs within = sum_by-le-sum_by (λ x. cond (p x) 1 0) (λ x. cond (q x) 1 0) xs (λ x. grind (arith, within x))

pub count_and : {E : Type 0} (p q : E → Bool) (xs : List E) → count_by (λ x. p x && q x) xs ≤ count_by p xs
count_and p q xs = count_within (λ x. p x && q x) p xs (λ x h. (and_parts (p x) (q x) h).0)

pub count_filtered : {E : Type 0} (p q : E → Bool) (xs : List E) → count_by p (filter q xs) ≡ count_by (λ x. p x && q x) xs
count_filtered p q xs = grind (arith, length-filter p (filter q xs), filter_filter q p xs, length-filter)

pub count_filter : {E : Type 0} (p q : E → Bool) (xs : List E) → count_by p (filter q xs) ≤ count_by p xs
count_filter p q xs = omega (arith, count_filtered p q xs, count_and p q xs)

pub count_map : {E F : Type 0} (f : E → F) (p : F → Bool) (xs : List E) → count_by p (map f xs) ≡ count_by (λ x. p (f x)) xs
count_map f p xs = fold-map (λ n y. n + cond (p y) 1 0) f 0 xs

-- two tests of which an entry passes one just where it passes a third, and never both
pub count_split : {E : Type 0} (p q r : E → Bool) (xs : List E) → ((x : E) → cond {A = ℕ} (p x) 1 0 + cond (q x) 1 0 ≡ cond (r x) 1 0) → count_by p xs + count_by q xs ≡ count_by r xs
count_split p q r [] each = omega arith
count_split p q r (x ∷ xs) each = grind (arith, count_split p q r xs each, count_cons p x xs, count_cons q x xs, count_cons r x xs)

-- what does not change from a number on is the same at each later one
pub settled : {A : Type 0} (f : ℕ → A) (k m : ℕ) → ((n : ℕ) → k ≤ n → f n ≡ f k → f (suc n) ≡ f k) → k ≤ m → f m ≡ f k
settled f k zero next le = let none : 0 ≡ k = omega arith in ap f none
settled f k (suc m) next le =
    elim (cases_lt m k) [
      | inl first ↦ let here : suc m ≡ k = omega arith in ap f here
      | inr later ↦ next m later (settled f k m next later)
    ]

pub sum_by-ones : {E : Type 0} (xs : List E) → sum_by (λ _. 1) xs ≡ length xs
sum_by-ones [] = refl
sum_by-ones (x ∷ xs) = omega (arith, sum_by-cons (λ _. 1) x xs, sum_by-ones xs)

-- the front of a list, with one more
pub front_more : {E : Type 0} (xs : List E) (i : ℕ) (x : E) → i < length xs → x ≡ get_or xs i x → take (i + 1) xs ≡ take i xs ++ x ∷ []
front_more xs i x within is = take_more xs i x within ∙ ap (λ y. take i xs ++ y ∷ []) (sym is)

-- lists that are the same from a place on have the same element there
pub same_there : {E : Type 0} (xs ys : List E) (i : ℕ) (d : E) → drop i ys ≡ drop i xs → get_or ys i d ≡ get_or xs i d
same_there xs ys i d same = grind (arith, get_or-drop i ys 0 d, get_or-drop i xs 0 d)

module _ {E : Type 0} (p : E → Bool) (xs : List E) (i : ℕ) (d : E) (inside : i < length xs) where
  pub leaves : p (get_or xs i d) ≡ false → filter p (take (i + 1) xs) ≡ filter p (take i xs)
  leaves out = filter_more p xs i d inside ∙ (ap (λ b. filter p (take i xs) ++ cond b (get_or xs i d ∷ []) []) out ∙ append-nil (filter p (take i xs)))

  pub stays : p (get_or xs i d) ≡ true → filter p (take (i + 1) xs) ≡ filter p (take i xs) ++ get_or xs i d ∷ []
  stays kept = filter_more p xs i d inside ∙ ap (λ b. filter p (take i xs) ++ cond b (get_or xs i d ∷ []) []) kept

-- ---- lists in an order, one behind the other

pub in_order_joined : {E : Type 0} (le : E → E → Bool) (xs ys : List E) → IsInOrder le xs → IsInOrder le ys → ((a b : E) → Among a xs → Among b ys → le a b ≡ true) → IsInOrder le (xs ++ ys)
in_order_joined le [] ys first second across = second
in_order_joined le (x ∷ xs) ys first second across = grind (arith, in_either xs ys, in_order_joined le xs ys first.1 second)

pub in_order_at : {E : Type 0} (le : E → E → Bool) (xs : List E) (i j : ℕ) (d : E) → IsInOrder le xs → i < j → j < length xs → le (get_or xs i d) (get_or xs j d) ≡ true
in_order_at le [] i j d h before inside = absurd (omega (arith, inside))
in_order_at le (x ∷ xs) i zero d h before inside = absurd (omega (arith, before))
in_order_at le (x ∷ xs) zero (suc j) d h before inside = h.0 (get_or xs j d) (among_place xs j d (omega (arith, inside)))
in_order_at le (x ∷ xs) (suc i) (suc j) d h before inside = in_order_at le xs i j d h.1 (omega (arith, before)) (omega (arith, inside))

module _ {E : Type 0} (before : E → E → Bool) (chain : IsChain before) where
  -- in a list in order those that come before an entry stand in front of the others
  pub parted_by_entry : (xs : List E) (e : E) → IsInOrder (λ a b. not (before b a)) xs → IsPartitionedBy (λ x. before x e) xs
  parted_by_entry xs e ordered i j d le inside passes =
      elim (cases_lt i j) [
        | inl less ↦ let far = in_order_at (λ a b. not (before b a)) xs i j d ordered less inside in chain.between (get_or xs j d) (get_or xs i d) e passes (grind (arith, far))
        | inr past ↦ let same : i ≡ j = omega (arith, le, past) in ap (λ k. before (get_or xs k d) e) same ∙ passes
      ]

-- what a sort by two numbers ensures: by the first, and where that is the same by the second
pub sorted_by_both : {E F : Type 0} {g : Mut F (Bor E × Unit {0}) (ℕ × ℕ)} {f : F} (key : E → ℕ × ℕ) (xs : List E) → IsSortedByKeyClosure g (λ x y. ordering_then (nat_cmp x.0 y.0) (nat_cmp x.1 y.1)) f xs
    → ((a : Bor E × Unit {0}) (r : ℕ × ℕ) (f' : F) → Called g f a r f' → (r ≡ key a.0.now) × (f' ≡ f)) → IsSortedBy (λ x y. is_lt (ordering_then (nat_cmp (key x).0 (key y).0) (nat_cmp (key x).1 (key y).1))) xs
sorted_by_both {g = g} {f = f} key xs by called = by key (always_returns_same g (λ a r. r ≡ key a.0.now) f called)
