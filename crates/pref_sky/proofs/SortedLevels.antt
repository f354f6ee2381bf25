-- Entries that are below the levels of a list may be left out of it, and may be there twice: the levels are the same. So levels may be merged, and of new entries those alone be kept that are not below those before.
use Rattle.pref_sky.proofs.Common.{◌≡◌, ◌==◌, ◌<◌, ◌≤◌, Bool, true, not, ◌&&◌, ℕ, zero, suc, List, ◌∷◌, ◌++◌, refl, arith, map}
use Rattle.pref_sky.proofs.Common.{IsStrictOrder, Among, Entry, HaveDifferentIds, OwnOrder, best, comes_after, entry_of, in_order_of_id, is_below, levels, own_levels, own_order, rest}
use Rattle.pref_sky.proofs.IdOrder.{different_by_count, same_in_order}
use Rattle.pref_sky.proofs.KeptLaws.{KeepsAllBut, drops_first, keeps_all, keeps_filtered, keeps_joined, keeps_moved, keeps_still}
use Rattle.pref_sky.proofs.ListLaws.{count_append, count_filtered, count_within, from_filter, in_filter, in_left}
use Rattle.pref_sky.proofs.Merges.{best_of_rest_is, comes_after_among_more, early_stays, is_at, same_chains}
use Rattle.pref_sky.proofs.OwnOrders.{own_is_strict}
use Rattle.pref_sky.proofs.Ranks.{count_levels, held_are}

-- some of these entries, with all that are not below the levels of a list
abbrev pub KeepsUpper : (Entry → Entry → Bool) → (cut : ℕ) → (upper entries kept : List Entry) → Type 0
KeepsUpper over cut upper = KeepsAllBut (λ e. comes_after over upper cut e ≡ true)

-- those of the levels are such
pub levels_keep : (over : Entry → Entry → Bool) (all : List Entry) (cut : ℕ) → KeepsUpper over cut all all (map entry_of (levels over all cut))
levels_keep over all cut = keeps_moved _ _ (keeps_filtered (λ e. not (comes_after over all cut e)) all (λ e low. grind (arith, low))) _ (held_are over all cut)

module _ (over : Entry → Entry → Bool) (strict : IsStrictOrder over) (some all : List Entry) (cut : ℕ) (keeps : KeepsUpper over cut all all some) where
  pub same_above : (n : ℕ) (e : Entry) → n ≤ cut → comes_after over some n e ≡ comes_after over all n e
  same_above = same_chains over strict some all cut keeps.within (λ x m early. grind (arith, keeps.covers x m))

  pub level_differs : HaveDifferentIds (map entry_of (levels over all cut)) → (n : ℕ) → n < cut → HaveDifferentIds (best over (rest over some n))
  level_differs different n early = record {
    once = λ id.
        let upper : Entry → Bool = λ e. e.id == id && not (comes_after over all cut e) in
        let within = count_within (λ e. e.id == id && is_at over some n e) upper some (λ e h. grind (arith, h, same_above (suc n) e, early_stays over all (suc n) cut e)) in
        grind (arith, different.once id, within, keeps.counts upper, count_levels, count_filtered, best_of_rest_is over some n);
  }

-- a list that keeps of another what is of its levels has the same levels
module _ (over : Entry → Entry → Bool) (strict : IsStrictOrder over) (some all : List Entry) (cut : ℕ) (keeps : KeepsUpper over cut all all some) (different : HaveDifferentIds (map entry_of (levels over all cut))) where
  same_level : (n : ℕ) → n < cut → in_order_of_id (best over (rest over some n)) ≡ in_order_of_id (best over (rest over all n))
  same_level n early =
      let same = same_above over strict some all cut keeps in
      same_in_order _ _ (level_differs over strict some all cut keeps different n early) (level_differs over strict all all cut (keeps_all all) different n early)
      (grind (arith, best_of_rest_is over some n, best_of_rest_is over all n, from_filter, in_filter, keeps.within, keeps.covers, same n, same (suc n), early_stays over all (suc n) cut))

  same_upto : (n : ℕ) → n ≤ cut → levels over some n ≡ levels over all n
  same_upto zero le = refl
  same_upto (suc n) le = grind (arith, same_level n, same_upto n)

  pub levels_kept : levels over some cut ≡ levels over all cut
  levels_kept = same_upto cut (omega arith)

-- new entries come to those that are held, of which those of the levels count alone
module _ (over : Entry → Entry → Bool) (strict : IsStrictOrder over) (cut : ℕ) (held entries : List Entry) (different : HaveDifferentIds (map entry_of (levels over held cut) ++ entries)) where
  still_below : (x : Entry) → comes_after over held cut x ≡ true → comes_after over (held ++ entries) cut x ≡ true
  still_below = comes_after_among_more over held (held ++ entries) (in_left held entries) cut

  pub merged_differ : HaveDifferentIds (map entry_of (levels over (held ++ entries) cut))
  merged_differ = grind (arith, different_by_count, count_within, still_below, count_levels, count_append)

  -- the merge law: those of the levels stand for all that are held
  pub merge : levels over (map entry_of (levels over held cut) ++ entries) cut ≡ levels over (held ++ entries) cut
  merge = levels_kept over strict _ (held ++ entries) cut (keeps_joined _ _ _ _ (keeps_still _ _ (levels_keep over held cut) still_below) (keeps_all entries)) merged_differ

-- and of sorted and recent entries
module _ (order : OwnOrder) (sorted recent : List Entry) where
  -- one that comes to them may be left out where it is below the levels of the sorted ones
  pub left_out : (others : List Entry) (e : Entry) → HaveDifferentIds (map entry_of (own_levels order ((sorted ++ recent) ++ e ∷ others))) → is_below order sorted e ≡ true
      → own_levels order ((sorted ++ recent) ++ others) ≡ own_levels order ((sorted ++ recent) ++ e ∷ others)
  left_out others e different low =
      let within : (x : Entry) → Among x sorted → Among x ((sorted ++ recent) ++ e ∷ others) = λ x m. in_left (sorted ++ recent) (e ∷ others) x (in_left sorted recent x m) in
      let still = comes_after_among_more (own_order order) sorted ((sorted ++ recent) ++ e ∷ others) within order.cut e low in
      levels_kept (own_order order) (own_is_strict order) _ _ order.cut (keeps_joined _ _ _ _ (keeps_all (sorted ++ recent)) (drops_first e others still)) different

  module _ (entries : List Entry) (different : HaveDifferentIds (map entry_of (own_levels order (sorted ++ recent)) ++ entries)) where
    pub all_differ : HaveDifferentIds (map entry_of (own_levels order ((sorted ++ recent) ++ entries)))
    all_differ = merged_differ (own_order order) (own_is_strict order) order.cut (sorted ++ recent) entries different

    pub own_merged : (before : List Entry) → HaveDifferentIds (before ++ entries) → own_levels order (sorted ++ recent) ≡ own_levels order before → own_levels order ((sorted ++ recent) ++ entries) ≡ own_levels order (before ++ entries)
    own_merged before all is = grind (arith, merge (own_order order) (own_is_strict order) order.cut (sorted ++ recent) entries different, merge (own_order order) (own_is_strict order) order.cut before entries)
