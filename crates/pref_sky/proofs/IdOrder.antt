-- Entries in order of id: one list for each set of entries with different ids.
use Rattle.pref_sky.proofs.Common.{◌≡◌, ℕ, suc, ◌≤◌, ◌<◌, Bool, true, cond, inl, List, [], ◌∷◌, refl, sym, ◌∙◌, ap, arith, ltb, eqb, eq-eqb, count_by, IsNonDecreasingBy, IsPermutation, cond_both}
use Rattle.pref_sky.proofs.Common.{sum_by-IsPermutation, Entry, HaveDifferentIds, put_by_id, in_order_of_id, Among, IsPermutation-cons, IsPermutation-middle, IsPermutation-trans}
use Rattle.pref_sky.proofs.Common.{IsPermutation-refl, nat_tests, length, get_or, IsInOrder, false, ◌++◌, ◌+◌}
use Rattle.pref_sky.proofs.ListLaws.{count_append, place_of, one_passes, same_if_permuted, SameMembers, count_cons}

-- each id is below all later ones
abbrev pub Rises : List Entry → Type 0
Rises entries = IsInOrder (λ (e x : Entry). ltb e.id x.id) entries

-- no two have the same number
abbrev pub Differ : {E : Type 0} → (E → ℕ) → List E → Type 0
Differ number xs = (n : ℕ) → count_by (λ x. eqb (number x) n) xs ≤ 1

pub different_later : {E : Type 0} (number : E → ℕ) (e : E) (others : List E) → Differ number (e ∷ others) → (x : E) → Among x others → number x ≡ number e → ⊥
different_later number e others different x m same =
    let here = ap (λ b. cond {A = ℕ} b 1 0) (eq-eqb (number e) (number e) refl) in
    omega (arith, here, different (number e), count_cons (λ y. eqb (number y) (number e)) e others, one_passes (λ y. eqb (number y) (number e)) others x m (eq-eqb (number x) (number e) same))

pub different_tail : {E : Type 0} (number : E → ℕ) (e : E) (others : List E) → Differ number (e ∷ others) → Differ number others
different_tail number e others different n = omega (arith, different n, count_cons (λ y. eqb (number y) n) e others)

pub different_by_count : (xs ys zs : List Entry) → HaveDifferentIds (xs ++ ys) → ((p : Entry → Bool) → count_by p zs ≤ count_by p xs + count_by p ys) → HaveDifferentIds zs
different_by_count xs ys zs different fewer = record { once = λ id. omega (arith, different.once id, fewer (λ (e : Entry). eqb e.id id), count_append (λ (e : Entry). eqb e.id id) xs ys) }

put_moves : (e : Entry) (xs : List Entry) → IsPermutation (e ∷ xs) (put_by_id e xs)
put_moves e [] = IsPermutation-refl (e ∷ [])
put_moves e (f ∷ others) =
    cond_both (ltb e.id f.id) (e ∷ f ∷ others) (f ∷ put_by_id e others) (IsPermutation (e ∷ f ∷ others)) (λ h. IsPermutation-refl (e ∷ f ∷ others)) (λ h.
    IsPermutation-trans _ _ _ (IsPermutation-middle (e ∷ []) f others) (IsPermutation-cons f (e ∷ others) (put_by_id e others) (put_moves e others)))

-- a list in order of id has the same entries
pub in_order_moves : (xs : List Entry) → IsPermutation xs (in_order_of_id xs)
in_order_moves [] = IsPermutation-refl []
in_order_moves (e ∷ others) = IsPermutation-trans _ _ _ (IsPermutation-cons e others (in_order_of_id others) (in_order_moves others)) (put_moves e (in_order_of_id others))

pub among_in_order : (xs : List Entry) (x : Entry) → Among x xs → Among x (in_order_of_id xs)
among_in_order xs = (same_if_permuted xs (in_order_of_id xs) (in_order_moves xs)).there

pub from_in_order : (xs : List Entry) (x : Entry) → Among x (in_order_of_id xs) → Among x xs
from_in_order xs = (same_if_permuted xs (in_order_of_id xs) (in_order_moves xs)).back

rises_put : (e : Entry) (others : List Entry) → Rises others → ((x : Entry) → Among x others → x.id ≡ e.id → ⊥) → Rises (put_by_id e others)
rises_put e [] rises other = (λ x m. absurd m, tt)
rises_put e (f ∷ others) rises other = grind (arith, same_if_permuted (e ∷ others) (put_by_id e others) (put_moves e others), rises_put e others rises.1)

pub rises_in_order : (xs : List Entry) → HaveDifferentIds xs → Rises (in_order_of_id xs)
rises_in_order [] different = tt
rises_in_order (e ∷ others) different =
    rises_put e (in_order_of_id others) (rises_in_order others (record { once = different_tail (λ (x : Entry). x.id) e others different.once }))
    (λ x m. different_later (λ (y : Entry). y.id) e others different.once x (from_in_order others x m))

-- two lists in order that have the same members are one
pub same_if_in_order : {E : Type 0} (before : E → E → Bool) → ((x y : E) → before x y ≡ true → before y x ≡ false) → (xs ys : List E) → IsInOrder before xs → IsInOrder before ys → SameMembers xs ys → xs ≡ ys
same_if_in_order before one_way [] [] rx ry same = refl
same_if_in_order before one_way [] (y ∷ ys) rx ry same = absurd (same.back y (inl refl))
same_if_in_order before one_way (x ∷ xs) [] rx ry same = absurd (same.there x (inl refl))
same_if_in_order {E = E} before one_way (x ∷ xs) (y ∷ ys) rx ry same = grind (arith, same.there x (inl refl), same.back y (inl refl), same_if_in_order before one_way xs ys rx.1 ry.1)

ids_one_way : (x y : Entry) → ltb x.id y.id ≡ true → ltb y.id x.id ≡ false
ids_one_way x y below = grind (arith, nat_tests, below)

pub same_in_order : (xs ys : List Entry) → HaveDifferentIds xs → HaveDifferentIds ys → SameMembers xs ys → in_order_of_id xs ≡ in_order_of_id ys
same_in_order xs ys dx dy same = grind (arith, same_if_in_order, rises_in_order xs dx, rises_in_order ys dy, among_in_order ys, from_in_order xs, among_in_order xs, from_in_order ys)

-- a list that is sorted, of which no two have the same number, is in order
pub in_order_if_sorted : {E : Type 0} (number : E → ℕ) (before : E → E → Bool) → ((a b : E) → before b a ≡ false → (number b ≡ number a → ⊥) → before a b ≡ true) → (xs : List E) → Differ number xs
    → ((i j : ℕ) (d : E) → i ≤ j → j < length xs → before (get_or xs j d) (get_or xs i d) ≡ false) → IsInOrder before xs
in_order_if_sorted number before next [] different sorted = tt
in_order_if_sorted number before next (x ∷ xs) different sorted = (
  λ y m.
      let w = place_of xs y y m in
      next x y (ap (λ z. before z x) (sym w.2) ∙ sorted 0 (suc w.0) y (omega arith) (omega (arith, w.1))) (different_later number x xs different y m),
  in_order_if_sorted number before next xs (different_tail number x xs different) (λ i j d le inside. sorted (suc i) (suc j) d (omega (arith, le)) (omega (arith, inside))),
)

-- what a sort by id leaves
pub sorted_is : (xs ys : List Entry) → IsPermutation xs ys → IsNonDecreasingBy (λ (e : Entry). e.id) ys → HaveDifferentIds xs → ys ≡ in_order_of_id xs
sorted_is xs ys moved sorted different =
    let same = same_if_permuted xs ys moved in
    let differ : Differ (λ (e : Entry). e.id) ys = λ id. omega (arith, different.once id, sum_by-IsPermutation (λ (e : Entry). cond (eqb e.id id) 1 0) xs ys moved) in
    same_if_in_order (λ (e x : Entry). ltb e.id x.id) ids_one_way ys (in_order_of_id xs)
    (in_order_if_sorted (λ (e : Entry). e.id) (λ e x. ltb e.id x.id) (λ e x h differ. grind (arith, nat_tests, h, differ)) ys differ (λ i j d le inside. grind (arith, nat_tests, sorted i j d le inside)))
    (rises_in_order xs different)
    (record { there = λ x m. among_in_order xs x (same.back x m); back = λ x m. same.there x (from_in_order xs x m) })
