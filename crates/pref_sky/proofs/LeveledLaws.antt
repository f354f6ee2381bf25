-- The level of an entry, by how many entries stand over it. Entries that are held in some order: those that have a level have the same levels, and in order of level and id they are these.
use Rattle.pref_sky.proofs.Common.{◌≡◌, ℕ, suc, zero, ◌<◌, ◌≤◌, Bool, true, false, List, sym, subst, ◌∙◌, arith, map, nat_lt, refl}
use Rattle.pref_sky.proofs.Common.{◌≤◌, cond, eqb, nat_tests, at_level, best, in_order_of_id, levels, rest, IsInOrder, IsStrictOrder, IsPermutation-sym, IsPermutation-trans, sum_by-IsPermutation, sorted_far}
use Rattle.pref_sky.proofs.Common.{IsPermutation, Entry, OwnOrder, Ranked, HaveDifferentIds, comes_after, count_above, entry_of, level_of, own_levels, own_order}
use Rattle.pref_sky.proofs.ChainLaws.{in_weaker_order, mapped_in_order}
use Rattle.pref_sky.proofs.IdOrder.{Differ, in_order_if_sorted, rises_in_order, same_if_in_order}
use Rattle.pref_sky.proofs.KeptLaws.{keeps_all, keeps_moved}
use Rattle.pref_sky.proofs.ListLaws.{count_map, from_map, in_order_joined, same_if_permuted}
use Rattle.pref_sky.proofs.Merges.{comes_after_upto}
use Rattle.pref_sky.proofs.OwnOrders.{own_is_strict}
use Rattle.pref_sky.proofs.Ranks.{leveled_are, levels_upto}
use Rattle.pref_sky.proofs.SortedLevels.{KeepsUpper, level_differs, levels_kept}
use Rattle.pref_sky.specs.Ranking.{AreInRanks, leveled, ranks_before}
use Rattle.pref_sky.specs.Sweep.{AreAbove}
use Rattle.std.specs.Cmp.{IsStrictWeakOrder}

-- how many levels are above an entry is the number of entries that stand over it, one over the other
pub count_above_is : {E : Type 0} (over : E → E → Bool) (cut : ℕ) (all : List E) (e : E) → AreAbove over cut all e (count_above over all cut e)
count_above_is over zero all e = record { within = omega arith; after = refl; no_more = λ less. absurd (omega (arith, less)) }
count_above_is over (suc cut) all e = let above = count_above_is over cut all e in grind (arith, above.within, above.after, above.no_more)

-- it is of that level alone, unless it is below the cut
pub only_level : {E : Type 0} (over : E → E → Bool) (cut : ℕ) (all : List E) (e : E) (n k : ℕ) → AreAbove over cut all e n → k < cut → comes_after over all k e ≡ true → comes_after over all (suc k) e ≡ false → k ≡ n
only_level over cut all e n k above early after last = grind (arith, above.within, above.after, above.no_more, comes_after_upto over all (suc k) n e, comes_after_upto over all (suc n) k e)

-- the level of an entry, by how many are above it
pub level_is : {E : Type 0} (over : E → E → Bool) (cut : ℕ) (all : List E) (e : E) (n : ℕ) → AreAbove over cut all e n → level_of over all cut e ≡ cond (nat_lt n cut) (suc n) 0
level_is over cut all e n above =
    let is = count_above_is over cut all e in
    grind (arith, nat_tests, above.within, above.after, above.no_more, is.within, is.after, is.no_more, comes_after_upto over all (suc n) cut e, only_level over cut all e n (count_above over all cut e) above)

-- ---- in which order the levels stand

ranks_are_ordered : IsStrictWeakOrder ranks_before
ranks_are_ordered = grind (arith, nat_tests)

module _ (over : Entry → Entry → Bool) (strict : IsStrictOrder over) (all : List Entry) (cut : ℕ) (different : HaveDifferentIds (map entry_of (levels over all cut))) where
  levels_rise : (n : ℕ) → n ≤ cut → IsInOrder ranks_before (levels over all n)
  levels_rise zero le = tt
  levels_rise (suc n) le =
      let level = in_order_of_id (best over (rest over all n)) in
      let rises = rises_in_order _ (level_differs over strict all all cut (keeps_all all) different n (omega (arith, le))) in
      in_order_joined ranks_before (levels over all n) (map (at_level (suc n)) level) (levels_rise n (omega (arith, le)))
      (mapped_in_order (at_level (suc n)) ranks_before level (in_weaker_order _ _ (λ a b h. grind (arith, nat_tests, h)) level rises))
      (λ r s mr ms. grind (arith, nat_tests, levels_upto over all n r mr, from_map (at_level (suc n)) level s ms))

  -- in order, the entries of the levels are the levels
  sorted_are_levels : (sorted : List Ranked) → AreInRanks (leveled (level_of over all cut) all) sorted → sorted ≡ levels over all cut
  sorted_are_levels sorted are =
      let found = levels over all cut in
      let moved : IsPermutation sorted found = IsPermutation-trans _ _ _ (IsPermutation-sym _ _ are.moved) (leveled_are over all cut) in
      let differ : Differ (λ (r : Ranked). r.id) sorted = λ id. omega (
        arith,
        different.once id,
        sum_by-IsPermutation (λ (r : Ranked). cond (eqb r.id id) 1 0) sorted found moved,
        count_map entry_of (λ e. eqb e.id id) found,
      ) in
      same_if_in_order ranks_before ranks_are_ordered.one_way sorted found
      (in_order_if_sorted (λ (r : Ranked). r.id) ranks_before (λ r s h differ. grind (arith, nat_tests, h, differ)) sorted differ (sorted_far ranks_before ranks_are_ordered sorted are.in_order))
      (levels_rise cut (omega arith)) (same_if_permuted sorted found moved)

-- ---- of entries that are held in some order

module _ (order : OwnOrder) (held all : List Entry) (different : HaveDifferentIds (map entry_of (own_levels order held))) (moved : IsPermutation held all) where
  all_levels : own_levels order all ≡ own_levels order held
  all_levels = levels_kept (own_order order) (own_is_strict order) all held order.cut (keeps_moved _ _ (keeps_all held) all moved) different

  all_differ : HaveDifferentIds (map entry_of (own_levels order all))
  all_differ = subst (λ l. HaveDifferentIds (map entry_of l)) (sym all_levels) different

  pub levels_of_kept : (kept : List Entry) → KeepsUpper (own_order order) order.cut all all kept → own_levels order kept ≡ own_levels order held
  levels_of_kept kept keeps = levels_kept (own_order order) (own_is_strict order) kept all order.cut keeps all_differ ∙ all_levels

  pub ranked_levels : (after : List Ranked) → AreInRanks (leveled (level_of (own_order order) all order.cut) all) after → after ≡ own_levels order held
  ranked_levels after are = sorted_are_levels (own_order order) (own_is_strict order) all order.cut all_differ after are ∙ all_levels
