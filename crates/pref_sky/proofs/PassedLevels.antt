-- Levels found one after the other, each from what the levels before leave: the entries without those that have an id of the best.
use Rattle.pref_sky.proofs.Common.{at_level, map, ◌++◌, ◌≡◌, ◌==◌, ℕ, zero, suc, ◌≤◌, Bool, not, inl, inr, List, [], ◌∷◌, sym, ◌∙◌, ap, arith, filter, list_any, append-nil, cases_lt, get_or, IsNonDecreasingBy, ltb, ltb-true}
use Rattle.pref_sky.proofs.Common.{nat_tests, Among, Entry, HaveDifferentIds, best, is_beaten, rest, without_best, in_order_of_id, levels, cases_Bool}
use Rattle.pref_sky.proofs.IdOrder.{among_in_order, different_later, different_tail, from_in_order, rises_in_order}
use Rattle.pref_sky.proofs.ListLaws.{any_from, any_none, filter_agree_among, from_filter, in_filter, in_order_at, settled}
use Rattle.pref_sky.proofs.Merges.{different_filter}

pub rest_differ : (over : Entry → Entry → Bool) (all : List Entry) (n : ℕ) → HaveDifferentIds all → HaveDifferentIds (rest over all n)
rest_differ over all zero different = different
rest_differ over all (suc n) different = different_filter (is_beaten over (rest over all n)) (rest over all n) (rest_differ over all n different)

pub ids_rise : (xs : List Entry) → HaveDifferentIds xs → IsNonDecreasingBy (λ (e : Entry). e.id) (in_order_of_id xs)
ids_rise xs different i j d le inside =
    elim (cases_lt i j) [
      | inl less ↦ omega (arith, ltb-true _ _ (in_order_at (λ (e x : Entry). ltb e.id x.id) (in_order_of_id xs) i j d (rises_in_order xs different) less inside))
      | inr past ↦ let same : i ≡ j = omega (arith, le, past) in omega (arith, ap (λ k. (get_or (in_order_of_id xs) k d).id) same)
    ]

-- there is one entry with an id
one_by_id : (xs : List Entry) → HaveDifferentIds xs → (x y : Entry) → Among x xs → Among y xs → x.id ≡ y.id → x ≡ y
one_by_id [] different x y mx my same = absurd mx
one_by_id (z ∷ zs) different x y mx my same =
    let later = different_later (λ (e : Entry). e.id) z zs different.once in
    grind (arith, one_by_id zs (record { once = different_tail (λ (e : Entry). e.id) z zs different.once }) x y)

-- what has no id of the best is dominated
pub without_ids : (over : Entry → Entry → Bool) (xs : List Entry) → HaveDifferentIds xs → filter (λ e. not (list_any (λ (b : Entry). b.id == e.id) (in_order_of_id (best over xs)))) xs ≡ without_best over xs
without_ids over xs different =
    let top = in_order_of_id (best over xs) in
    let is_best : Entry → Bool = λ x. not (is_beaten over xs x) in
    filter_agree_among (λ e. not (list_any (λ (b : Entry). b.id == e.id) top)) (is_beaten over xs) xs (λ x m.
    let same_id : Entry → Bool = λ b. b.id == x.id in
    elim (cases_Bool (is_beaten over xs x)) [
      | inl beaten ↦ ap not (any_none same_id top (λ b mb. grind (arith, nat_tests, from_filter is_best xs b (from_in_order (best over xs) b mb), one_by_id xs different b x))) ∙ sym beaten
      | inr unbeaten ↦ grind (arith, nat_tests, any_from same_id top x (among_in_order (best over xs) x (in_filter is_best xs x m (ap not unbeaten))))
    ])

none_later : (over : Entry → Entry → Bool) (all : List Entry) (n m : ℕ) → rest over all n ≡ [] → n ≤ m → rest over all m ≡ []
none_later over all n m none le = settled (rest over all) n m (λ k past is. ap (without_best over) (is ∙ none) ∙ sym none) le ∙ none

-- where nothing is left, no entry is of a later level
pub no_later_level : (over : Entry → Entry → Bool) (all : List Entry) (n m : ℕ) → rest over all n ≡ [] → n ≤ m → levels over all n ≡ levels over all m
no_later_level over all n m none le =
    sym (settled (levels over all) n m
    (λ k past is. ap (λ l. levels over all k ++ map (at_level (suc k)) (in_order_of_id (best over l))) (none_later over all n k none past) ∙ (append-nil (levels over all k) ∙ is)) le)
