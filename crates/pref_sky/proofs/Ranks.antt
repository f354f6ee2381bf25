-- The levels of a list are its entries over which no chain of the cut stands, each with its level.
use Rattle.pref_sky.proofs.Common.{◌≡◌, ℕ, zero, suc, ◌≤◌, Bool, true, not, ◌&&◌, List, [], ◌∷◌, ◌++◌, map, refl, sym, ◌∙◌, subst, arith, filter, nat_lt, cond, cond-true}
use Rattle.pref_sky.proofs.Common.{Among, Entry, Ranked, at_level, entry_of, in_order_of_id, best, rest, levels, level_of, count_above, comes_after, count_by}
use Rattle.pref_sky.proofs.Common.{IsPermutation, IsPermutation-cons, IsPermutation-map, IsPermutation-middle, IsPermutation-refl, IsPermutation-sym, IsPermutation-trans, sum_by-IsPermutation}
use Rattle.std.proofs.lemmas.List.Sorted.{IsPermutation-append}
use Rattle.pref_sky.proofs.IdOrder.{in_order_moves}
use Rattle.pref_sky.proofs.ListLaws.{count_filtered, from_map, in_either, none_pass}
use Rattle.pref_sky.proofs.Merges.{best_of_rest_is, comes_after_less, is_at}
use Rattle.pref_sky.specs.Ranking.{leveled}

-- where a chain of the cut stands over an entry, so many levels are above it
count_at_cut : {E : Type 0} (over : E → E → Bool) (all : List E) (cut : ℕ) (e : E) → comes_after over all cut e ≡ true → count_above over all cut e ≡ cut
count_at_cut over all zero e after = refl
count_at_cut over all (suc cut) e after = cond-true (comes_after over all (suc cut) e) (suc cut) (count_above over all cut e) after

-- those of one level more
leveled_more : (over : Entry → Entry → Bool) (all : List Entry) (n : ℕ) (xs : List Entry)
    → IsPermutation (leveled (level_of over all (suc n)) xs) (leveled (level_of over all n) xs ++ map (at_level (suc n)) (filter (is_at over all n) xs))
leveled_more over all n [] = IsPermutation-refl []
leveled_more over all n (x ∷ xs) =
    let others = leveled (level_of over all (suc n)) xs in
    let before = leveled (level_of over all n) xs in
    let level = map (at_level (suc n)) (filter (is_at over all n) xs) in
    let one = at_level (level_of over all (suc n) x) x in
    grind (arith, comes_after_less over all n x, count_at_cut over all n x, leveled_more over all n xs, IsPermutation-cons one others, IsPermutation-trans, IsPermutation-sym, IsPermutation-middle before one level)

pub leveled_are : (over : Entry → Entry → Bool) (all : List Entry) (cut : ℕ) → IsPermutation (leveled (level_of over all cut) all) (levels over all cut)
leveled_are over all zero = grind (arith, none_pass (λ (e : Entry). nat_lt 0 0) all, IsPermutation-refl)
leveled_are over all (suc n) =
    let level = filter (is_at over all n) all in
    subst (λ l. IsPermutation (leveled (level_of over all (suc n)) all) (levels over all n ++ map (at_level (suc n)) (in_order_of_id l))) (sym (best_of_rest_is over all n))
    (IsPermutation-trans _ _ _ (leveled_more over all n all)
    (IsPermutation-append _ _ _ _ (leveled_are over all n) (IsPermutation-map (at_level (suc n)) level (in_order_of_id level) (in_order_moves level))))

-- those that have a level are not below the cut
entries_of_leveled : (over : Entry → Entry → Bool) (all : List Entry) (cut : ℕ) (xs : List Entry) → map entry_of (leveled (level_of over all cut) xs) ≡ filter (λ e. not (comes_after over all cut e)) xs
entries_of_leveled over all cut [] = refl
entries_of_leveled over all cut (x ∷ xs) = grind (arith, entries_of_leveled over all cut xs)

pub held_are : (over : Entry → Entry → Bool) (all : List Entry) (cut : ℕ) → IsPermutation (filter (λ e. not (comes_after over all cut e)) all) (map entry_of (levels over all cut))
held_are over all cut = grind (arith, entries_of_leveled over all cut all, IsPermutation-map entry_of (leveled (level_of over all cut) all) (levels over all cut) (leveled_are over all cut))

pub count_levels : (over : Entry → Entry → Bool) (p : Entry → Bool) (all : List Entry) (n : ℕ) → count_by p (map entry_of (levels over all n)) ≡ count_by (λ e. p e && not (comes_after over all n e)) all
count_levels over p all n = sum_by-IsPermutation (λ e. cond (p e) 1 0) _ _ (held_are over all n) ∙ count_filtered p (λ e. not (comes_after over all n e)) all

-- there is none of a higher level
pub levels_upto : (over : Entry → Entry → Bool) (all : List Entry) (n : ℕ) (r : Ranked) → Among r (levels over all n) → r.level ≤ n
levels_upto over all zero r m = absurd m
levels_upto over all (suc n) r m =
    let level = in_order_of_id (best over (rest over all n)) in
    grind (arith, in_either (levels over all n) (map (at_level (suc n)) level) r m, levels_upto over all n r, from_map (at_level (suc n)) level r)
