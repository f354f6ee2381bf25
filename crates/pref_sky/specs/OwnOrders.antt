-- No public contract cites this.
-- How many levels are above the entries of a list. A question's order of entries, and the one in which they are kept: their levels are found only when they are asked for.
use Rattle.std.specs.Prelude.{◌≡◌, ◌<◌, Bool, true, not, ◌&&◌, cond, nat_lt, ℕ, zero, suc, List, length, map, All}
use Rattle.std.specs.List.{list_any}
use Rattle.std.specs.List.Sorted.{IsPermutation}
use Rattle.pref_term.specs.AskOrder.{order_of}
use Rattle.pref_term.specs.Extension.{ask_keys}
use Rattle.pref_sky.specs.Chains.{IsInOrder, better_in, by_row, in_turn}
use Rattle.pref_sky.specs.Items.{entry_at}
use Rattle.pref_sky.specs.Levels.{entry_order, levels}
use Rattle.pref_sky.specs.declared.entry.Entry.{Entry}
use Rattle.pref_sky.specs.declared.entry.Ranked.{Ranked}
use Rattle.pref_sky.specs.declared.item.Item.{Item}
use Rattle.pref_sky.specs.declared.own_order.OwnOrder.{OwnOrder}

-- n entries of the list, each over the next, stand over e: it is left when the best were taken away n times
abbrev pub comes_after : {E : Type 0} → (E → E → Bool) → List E → ℕ → E → Bool
comes_after over all zero e = true
comes_after over all (suc n) e = list_any (λ x. comes_after over all n x && over x e) all

-- how many levels are above an entry, or the cut where they are more
abbrev pub count_above : {E : Type 0} → (E → E → Bool) → List E → ℕ → E → ℕ
count_above over all zero e = 0
count_above over all (suc cut) e = cond (comes_after over all (suc cut) e) (suc cut) (count_above over all cut e)

-- the level of an entry, from 1 on; 0 where it is below the cut
abbrev pub level_of : {E : Type 0} → (E → E → Bool) → List E → ℕ → E → ℕ
level_of over all cut e = cond (comes_after over all cut e) 0 (suc (count_above over all cut e))

-- the order of entries
abbrev pub own_order : OwnOrder → Entry → Entry → Bool
own_order order = entry_order (order_of order.ask)

-- the levels up to the cut
abbrev pub own_levels : OwnOrder → List Entry → List Ranked
own_levels order entries = levels (own_order order) entries order.cut

-- an entry is below the levels of a list
abbrev pub is_below : OwnOrder → List Entry → Entry → Bool
is_below order entries e = comes_after (own_order order) entries order.cut e

-- the order in which its entries are kept: by all keys of the question from left to right, and then by id
abbrev pub comes_before : OwnOrder → Entry → Entry → Bool
comes_before order = in_turn (by_row (better_in (ask_keys order.ask))) (λ a b. nat_lt a.id b.id)

-- no entry comes before an earlier one of the list
abbrev pub AreInOrder : OwnOrder → List Entry → Type 0
AreInOrder order = IsInOrder (λ a b. not (comes_before order b a))

-- the entries of a list, in order
pub record AreSorted (order : OwnOrder) (entries sorted : List Entry) : Type 0 where
  pub moved : IsPermutation entries sorted
  pub in_order : AreInOrder order sorted

-- what the entries of these items of a list are over is below its levels
abbrev pub AreLowest : OwnOrder → List Entry → List Item → Type 0
AreLowest order entries items = All (λ (item : Item). (item.place < length entries) × ((e : Entry) → own_order order (entry_at entries item.place) e ≡ true → is_below order entries e ≡ true)) items

-- the entries of a list in some order, and their levels
pub record AreLeveled (order : OwnOrder) (held all : List Entry) (levels : List ℕ) : Type 0 where
  pub moved : IsPermutation held all
  pub level : levels ≡ map (level_of (own_order order) all order.cut) all
