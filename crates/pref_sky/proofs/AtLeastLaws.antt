-- What an ask for at least k selects: k levels always hold enough.
use Rattle.pref_sky.proofs.Common.{◌≡◌, ℕ, zero, suc, ◌≤◌, Bool, true, false, not, ◌&&◌, List, [], ◌∷◌, ◌++◌, map, length, ltb, refl, sym, ◌∙◌, ap, arith, filter, append-nil}
use Rattle.pref_sky.proofs.Common.{nat_tests, count_by-le-length, length-map, entry_of, and_from, lt-ltb, le-ltb, length-filter, filter-append, IsStrictOrder}
use Rattle.pref_sky.proofs.Common.{Row, Entry, Ranked, best, rest, in_order_of_id, at_level, levels, count_before, at_least, Among, length-filter_both, ◌<◌, get_or}
use Rattle.pref_sky.proofs.Common.{IsPartitionedBy, count_by}
use Rattle.pref_sky.proofs.ListLaws.{settled, sum_by-ones, all_pass, filter_agree_among, from_map, in_map, none_pass, one_passes}
use Rattle.pref_sky.proofs.ListLaws.{count_append, count_cons}
use Rattle.pref_sky.proofs.Merges.{comes_after, comes_after_upto, unbeaten_over, on_level, to_level}
use Rattle.pref_sky.proofs.IdOrder.{among_in_order, from_in_order}
use Rattle.pref_sky.proofs.Ranks.{count_levels, levels_upto}

-- an entry is over entries of its own group alone
abbrev pub StaysInGroups : (Entry → Entry → Bool) → (Row → Row → Bool) → Type 0
StaysInGroups over same = (a b : Entry) → over a b ≡ true → same a.row b.row ≡ true

-- one level, as it stands among the ranked entries
abbrev one_level : ℕ → List Entry → List Ranked
one_level n entries = map (at_level n) (in_order_of_id entries)

-- below an entry that comes after n removals stand n entries of its group at least, one of each level
enough_before : (over : Entry → Entry → Bool) → IsStrictOrder over → (same : Row → Row → Bool) → StaysInGroups over same → (all : List Entry) (n : ℕ) (e : Entry) → comes_after over all n e ≡ true → (j : ℕ) → j ≤ n → j ≤ count_before same (levels over all j) (at_level (suc n) e)
enough_before over strict same within all n e after zero le = omega arith
enough_before over strict same within all n e after (suc j) le =
    let test : Ranked → Bool = λ s. same s.row e.row && ltb s.level (suc n) in
    let top = unbeaten_over over strict (comes_after over all j) all e (comes_after_upto over all (suc j) n e le after) in
    let level = best over (rest over all j) in
    let one = one_passes test (one_level (suc j) level) (at_level (suc j) top.0) (in_map (at_level (suc j)) (in_order_of_id level) top.0 (among_in_order level top.0 (to_level over all j top.0 top.1 top.2 top.4)))
    (and_from (same top.0.row e.row) (ltb (suc j) (suc n)) (within top.0 e top.3) (lt-ltb (suc j) (suc n) (omega arith))) in
    omega (arith, enough_before over strict same within all n e after j (omega arith), one, count_append test (levels over all j) (one_level (suc j) level))

-- none of a level is on a lower one
none_lower : (same : Row → Row → Bool) (n : ℕ) (xs : List Entry) (r : Ranked) → r.level ≤ n → count_before same (map (at_level n) xs) r ≡ 0
none_lower same n [] r le = refl
none_lower same n (x ∷ xs) r le = grind (arith, none_lower same n xs r le)

-- a level past k changes nothing
one_level_more : (over : Entry → Entry → Bool) → IsStrictOrder over → (same : Row → Row → Bool) → StaysInGroups over same → (all : List Entry) (k n : ℕ) → k ≤ n → at_least same k (levels over all (suc n)) ≡ at_least same k (levels over all n)
one_level_more over strict same within all k n le =
    let some = levels over all n in
    let level = best over (rest over all n) in
    let more = one_level (suc n) level in
    let few : List Ranked → Ranked → Bool = λ ranked r. ltb (count_before same ranked r) k in
    let agree : (r : Ranked) → Among r (some ++ more) → few (some ++ more) r ≡ few some r = λ r m.
    grind (arith, count_append (λ (s : Ranked). same s.row r.row && ltb s.level r.level) some more, none_lower same (suc n) (in_order_of_id level) r, levels_upto over all (suc n) r m) in
    let below : (r : Ranked) → Among r more → few some r ≡ false = λ r m.
    let w = from_map (at_level (suc n)) (in_order_of_id level) r m in
    ap (few some) w.2 ∙ le-ltb (count_before same some (at_level (suc n) w.0)) k (omega (arith, le, enough_before over strict same within all n w.0 (on_level over all n w.0 (from_in_order level w.0 w.1)).0 n (omega arith))) in
    grind (arith, filter_agree_among (few (some ++ more)) (few some) (some ++ more) agree, filter-append (few some) some more, none_pass (few some) more below, append-nil (filter (few some) some))

past_k : (over : Entry → Entry → Bool) → IsStrictOrder over → (same : Row → Row → Bool) → StaysInGroups over same → (all : List Entry) (k m : ℕ) → k ≤ m → at_least same k (levels over all m) ≡ at_least same k (levels over all k)
past_k over strict same within all k m le = settled (λ n. at_least same k (levels over all n)) k m (λ n past is. one_level_more over strict same within all k n past ∙ is) le

-- all of a list stand behind fewer than it has
all_few : (ranked : List Ranked) (n : ℕ) → length ranked ≤ n → at_least (λ a b. true) n ranked ≡ ranked
all_few ranked n le =
    all_pass (λ r. ltb (count_before (λ a b. true) ranked r) n) ranked (λ r m.
    let lower : Ranked → Bool = λ s. ltb s.level r.level in
    grind (arith, nat_tests, one_passes (λ s. not (lower s)) ranked r m, length-filter_both lower (λ s. not (lower s)) (λ s. refl) ranked, length-filter lower ranked, length-filter (λ s. not (lower s)) ranked))

no_more_ranked : (over : Entry → Entry → Bool) (all : List Entry) (n : ℕ) → length (levels over all n) ≤ length all
no_more_ranked over all n =
    omega (arith, length-map (levels over all n) entry_of, sum_by-ones (map entry_of (levels over all n)), count_levels over (λ _. true) all n, count_by-le-length (λ e. not (comes_after over all n e)) all)

-- there are no more levels than entries
past_all : (over : Entry → Entry → Bool) → IsStrictOrder over → (all : List Entry) (m : ℕ) → length all ≤ m → levels over all m ≡ levels over all (length all)
past_all over strict all m le =
    sym (all_few (levels over all m) (length all) (no_more_ranked over all m))
    ∙ (past_k over strict (λ a b. true) (λ a b h. refl) all (length all) m le ∙ all_few (levels over all (length all)) (length all) (no_more_ranked over all (length all)))

-- k levels hold enough
pub enough : (over : Entry → Entry → Bool) → IsStrictOrder over → (same : Row → Row → Bool) → StaysInGroups over same → (all : List Entry) (k : ℕ) → at_least same k (levels over all (length all)) ≡ at_least same k (levels over all k)
enough over strict same within all k = grind (arith, past_all over strict all k, past_k over strict same within all k (length all))

-- where what passes stands in front, a place is in front where fewer places are than pass
pub place_passes : {E : Type 0} (p : E → Bool) (xs : List E) → IsPartitionedBy p xs → (k : ℕ) (d : E) → k < length xs → p (get_or xs k d) ≡ ltb k (count_by p xs)
place_passes p [] parted k d inside = absurd (omega (arith, inside))
place_passes p (x ∷ xs) parted zero d inside =
    grind (arith, nat_tests, count_cons p x xs, count_by-le-length p xs, place_passes p xs (λ i j e le l. parted (suc i) (suc j) e (omega (arith, le)) (omega (arith, l))) 0 d, parted 0 1 d)
place_passes p (x ∷ xs) parted (suc k) d inside =
    grind (arith, nat_tests, count_cons p x xs, place_passes p xs (λ i j e le l. parted (suc i) (suc j) e (omega (arith, le)) (omega (arith, l))) k d (omega (arith, inside)), parted 0 (suc k) d (omega arith) inside)
