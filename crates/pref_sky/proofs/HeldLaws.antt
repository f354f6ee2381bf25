-- Entries that were held already, when others come: as many levels are above them as before, or more, and none that was of a level is over one that was of it or of one above.
use Rattle.pref_sky.proofs.Common.{◌≡◌, ℕ, zero, suc, ◌<◌, ◌≤◌, ◌-◌, Bool, true, false, List, [], refl, sym, ◌∙◌, ap, subst, arith, length, get_or, get_or-map, map, filter, nat_lt, All}
use Rattle.pref_sky.proofs.Common.{Entry, Among, comes_after, count_above, entry_at, entry_of, level_of, own_levels, own_order, AreLeveled, AreLowest, HaveDifferentIds, Item, OwnOrder}
use Rattle.pref_sky.proofs.OwnOrders.{own_is_strict}
use Rattle.pref_sky.proofs.KeptLaws.{keeps_filtered}
use Rattle.pref_sky.proofs.LeveledLaws.{count_above_is, level_is, levels_of_kept}
use Rattle.pref_sky.proofs.ListLaws.{among_place, any_from}
use Rattle.pref_sky.proofs.Merges.{comes_after_among_more, comes_after_upto}
use Rattle.pref_sky.proofs.SortedLevels.{KeepsUpper, same_above}
use Rattle.pref_sky.specs.Held.{AreHeld, AreTakenOver}

-- what an entry of the last level is over is below the cut
last_over : (over : Entry → Entry → Bool) (cut : ℕ) (held : List Entry) (x e : Entry) → Among x held → level_of over held cut x ≡ cut → over x e ≡ true → comes_after over held cut e ≡ true
last_over over zero held x e m last above = refl
last_over over (suc cut) held x e m last above = grind (arith, any_from, count_above_is over (suc cut) held x)

module _ (over : Entry → Entry → Bool) (cut : ℕ) (held : List Entry) where
  level_within : (e : Entry) → level_of over held cut e ≤ cut
  level_within e = grind (arith, count_above_is over cut held e)

  level_after : (e : Entry) → comes_after over held (level_of over held cut e - 1) e ≡ true
  level_after e = grind (arith, count_above_is over cut held e)

  level_apart : (e x : Entry) → Among x held → 0 < level_of over held cut e → level_of over held cut e ≤ level_of over held cut x → over x e ≡ false
  level_apart e x m some near =
      let n = count_above over held cut e in
      let k = count_above over held cut x in
      grind (arith, any_from, count_above_is over cut held e, count_above_is over cut held x, comes_after_upto over held (suc n) (suc k) e)

  -- among more entries
  pub held_among : (all : List Entry) (found : List ℕ) → AreTakenOver (level_of over held cut) held all found → ((x : Entry) → Among x held → Among x all) → AreHeld over cut (λ p. get_or found p 0) all
  held_among all found taken within =
      record {
        within = λ p inside. grind (arith, taken p inside, level_within);
        after = λ p inside. grind (arith, taken p inside, level_after, comes_after_among_more over held all within);
        apart = λ p q p_inside q_inside some near. grind (arith, taken p p_inside, taken q q_inside, level_apart);
      }

-- ---- of entries that are held in some order, those that have a level, and their levels

module _ (order : OwnOrder) (held all : List Entry) (levels : List ℕ) (different : HaveDifferentIds (map entry_of (own_levels order held))) (are : AreLeveled order held all levels) (kept : List Entry) (left : List ℕ)
    (kept_is : kept ≡ filter (λ e. nat_lt 0 (level_of (own_order order) all order.cut e)) all) (left_is : left ≡ map (level_of (own_order order) all order.cut) kept) where
  keeps : KeepsUpper (own_order order) order.cut all all kept
  keeps = subst (KeepsUpper (own_order order) order.cut all all) (sym kept_is) (keeps_filtered (λ e. nat_lt 0 (level_of (own_order order) all order.cut e)) all (λ e none. grind (arith, none)))

  level_kept : (e : Entry) → level_of (own_order order) all order.cut e ≡ level_of (own_order order) kept order.cut e
  level_kept e =
      let is = count_above_is (own_order order) order.cut kept e in
      let n = count_above (own_order order) kept order.cut e in
      let same = same_above (own_order order) (own_is_strict order) kept all order.cut keeps in
      level_is (own_order order) order.cut all e n (grind (arith, is.within, is.after, is.no_more, same n e, same (suc n) e)) ∙ sym (level_is (own_order order) order.cut kept e n is)

  pub kept_leveled : left ≡ map (level_of (own_order order) kept order.cut) kept
  kept_leveled = left_is ∙ (λ i. map (λ e. level_kept e i) kept)

  pub kept_lowest : (items : List Item) → All (λ (item : Item). (item.place < length kept) × (get_or left item.place 0 ≡ order.cut)) items → AreLowest order kept items
  kept_lowest items lowest k d inside =
      let at = lowest k d inside in
      let place = (get_or items k d).place in
      let none : Entry = record { id = 0; row = [] } in
      let level = ap (λ l. get_or l place 0) kept_leveled ∙ get_or-map (level_of (own_order order) kept order.cut) kept place none 0 at.0 in
      (at.0, λ e above. last_over (own_order order) order.cut kept (entry_at kept place) e (among_place kept place none at.0) (sym level ∙ at.1) above)

  pub kept_levels : own_levels order kept ≡ own_levels order held
  kept_levels = levels_of_kept order held all different are.moved kept keeps
