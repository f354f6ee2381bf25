-- The order of places and its inverse, after a move, and which places are free by it.
use Rattle.pref_core.proofs.Common.{◌≡◌, ◌≢◌, ℕ, zero, suc, ◌+◌, ◌-◌, ◌<◌, ◌≤◌, Bool, cond, nat_lt, List, [], ◌∷◌, map, length, get_or, set, Some, slice_get, refl, sym, ap, ◌∙◌, subst, arith, ⊎_elim, get_or-set_same, get_or-set_other, lt-ltb}
use Rattle.pref_core.proofs.Common.{count_by, length-map, length-set, same_lists, get_or-map, sum_by-set, slice_get_within, get_or_from_slice_get, cases_eq, le-ltb, ltb-true, SlotUse, number_of, numbered, number_at, use_at}
use Rattle.pref_core.proofs.Common.{is_free_use, IsInverse, IsArranged, moved_order, moved_positions, rules, true, false, eqb, take, None, slice_get-map, slice_get-get_or, eqb-true, or_cases, or_right, Ended, free_at, among}

-- A place goes from its position, and another comes there.
module _ (order positions : List ℕ) (place to : ℕ) (inv : IsInverse order positions) (lp : place < length order) (lt : to < length order) where
  abbrev from : ℕ
  from = get_or positions place 0

  abbrev other : ℕ
  other = get_or order to 0

  same_place : from ≡ to → place ≡ other
  same_place e = sym (inv.back place lp) ∙ ap (λ k. get_or order k 0) e

  apart : (k : ℕ) → k < length order → k ≢ place → get_or positions k 0 ≢ from
  apart k l n e = n (sym (inv.back k l) ∙ ap (λ x. get_or order x 0) e ∙ inv.back place lp)

  apart_other : (k : ℕ) → k < length order → k ≢ other → get_or positions k 0 ≢ to
  apart_other k l n e = n (sym (inv.back k l) ∙ ap (λ x. get_or order x 0) e)

  abbrev new_order : List ℕ
  new_order = moved_order order positions place to

  abbrev new_positions : List ℕ
  new_positions = moved_positions order positions place to

  pub length_order : length new_order ≡ length order
  length_order = length-set (set order from other) to place ∙ length-set order from other

  pub length_positions : length new_positions ≡ length order
  length_positions = length-set (set positions place to) other from ∙ length-set positions place to ∙ inv.long

  at_other : get_or new_positions other 0 ≡ from
  at_other = grind (arith, get_or-set_same, length-set, inv.places to lt, inv.long)

  at_place : get_or new_positions place 0 ≡ to
  at_place = grind (arith, at_other, get_or-set_same, get_or-set_other, length-set, inv.long)

  at_neither : (k : ℕ) → k ≢ place → k ≢ other → get_or new_positions k 0 ≡ get_or positions k 0
  at_neither k a b = grind (arith, get_or-set_other)

  pub order_to : get_or new_order to 0 ≡ place
  order_to = grind (arith, get_or-set_same, length-set)

  pub order_from : get_or new_order from 0 ≡ other
  order_from = grind (arith, order_to, get_or-set_same, get_or-set_other, length-set, inv.within place lp)

  pub order_neither : (k : ℕ) → k ≢ from → k ≢ to → get_or new_order k 0 ≡ get_or order k 0
  order_neither k a b = grind (arith, get_or-set_other)

  pub position_goes : (Q : ℕ → ℕ → Type 0) → Q place to → Q other from → ((k : ℕ) → k < length order → k ≢ place → k ≢ other → Q k (get_or positions k 0)) → (k : ℕ) → k < length order → Q k (get_or new_positions k 0)
  position_goes Q a b c k l = grind (arith, at_place, at_other, at_neither)

  pub inverse_moved : IsInverse new_order new_positions
  inverse_moved = grind (arith, length_positions, length_order, inv.places to lt, at_place, at_other, at_neither, inv.there to lt, position_goes, inv.within place lp, order_to, order_from, order_neither, apart, apart_other)

  -- the uses after a move that shifts a border past the position
  pub uses_moved : (bounds after : List ℕ) (slot_use : SlotUse) → use_at after to ≡ slot_use
      → (from ≢ to → use_at after from ≡ use_at bounds to)
      → ((x : ℕ) → x ≢ from → x ≢ to → use_at after x ≡ use_at bounds x)
      → map (use_at after) new_positions ≡ set (map (use_at bounds) positions) place slot_use
  uses_moved bounds after slot_use here there elsewhere = same_lists _ _
      (grind (arith, length-map new_positions (use_at after), length_positions, length-set (map (use_at bounds) positions) place slot_use, length-map positions (use_at bounds)))
      (λ k d l. grind (arith, others k, get_or-map (use_at after) new_positions k 0 d, get_or-map (use_at bounds) positions k 0 d, at_place, length_positions, length-map new_positions (use_at after), length-map positions (use_at bounds), get_or-set_same, get_or-set_other, cases_eq k place))
    where
      others : (k : ℕ) → k < length order → k ≢ place → use_at after (get_or new_positions k 0) ≡ use_at bounds (get_or positions k 0)
      others = position_goes (λ k x. k ≢ place → use_at after x ≡ use_at bounds (get_or positions k 0))
          (λ n. absurd (n refl))
          (λ n. there (λ e. n (sym (same_place e))) ∙ ap (use_at bounds) (sym (inv.there to lt)))
          (λ k l a b n. elsewhere (get_or positions k 0) (apart k l a) (apart_other k l b))

-- Numbers of positions: past each bound before, ..
pub number_past : (bounds : List ℕ) (x j : ℕ) → j < number_at bounds x → get_or bounds j 0 ≤ x
number_past (bound ∷ bounds) x (suc j) l = grind (arith, number_past bounds x j)
number_past bounds x j l = grind (arith)

-- .. and below their own, ..
pub number_below : (bounds : List ℕ) (x : ℕ) → number_at bounds x < length bounds → x < get_or bounds (number_at bounds x) 0
number_below [] x l = grind (arith)
number_below (bound ∷ bounds) x l = grind (arith, number_below bounds x)

-- .. and by these.
pub number_is : (bounds : List ℕ) (x k : ℕ) → k < length bounds → ((j : ℕ) → j < k → get_or bounds j 0 ≤ x) → x < get_or bounds k 0 → number_at bounds x ≡ k
number_is (bound ∷ bounds) x (suc k) l past below = rw (le-ltb x bound (past zero (omega arith))) (ap suc (number_is bounds x k (omega arith) (λ j m. past (suc j) (omega arith)) below))
number_is bounds x k l past below = grind (arith)

-- Another bound leaves the numbers of positions that are on one side of both.
pub number_kept : (bounds : List ℕ) (k bound x : ℕ) → nat_lt x bound ≡ nat_lt x (get_or bounds k 0) → number_at (set bounds k bound) x ≡ number_at bounds x
number_kept (first ∷ bounds) (suc k) bound x e = ap (λ n. cond (nat_lt x first) 0 (suc n)) (number_kept bounds k bound x e)
number_kept bounds k bound x e = grind (arith)

pub number_numbered : (n : ℕ) → number_of (numbered n) ≡ n
number_numbered n = grind (arith)

-- The free places are below the first bound.
pub free_number : (bounds : List ℕ) (x : ℕ) → 0 < length bounds → is_free_use (use_at bounds x) ≡ nat_lt x (get_or bounds 0 0)
free_number [] x l = absurd (omega arith)
free_number (bound ∷ bounds) x l = grind (arith)

-- Bounds stay in their order where one goes no further than those beside it.
ascending_set : (bounds : List ℕ) (k bound : ℕ) → length bounds ≡ 10 → k < 10 → ((i : ℕ) → i < k → get_or bounds i 0 ≤ bound) → ((j : ℕ) → k < j → j < 10 → bound ≤ get_or bounds j 0)
    → ((i j : ℕ) → i ≤ j → j < 10 → get_or bounds i 0 ≤ get_or bounds j 0) → (i j : ℕ) → i ≤ j → j < 10 → get_or (set bounds k bound) i 0 ≤ get_or (set bounds k bound) j 0
ascending_set bounds k bound long lk low high all i j le lj = grind (arith, get_or-set_other, get_or-set_same)

inside_set : (bounds : List ℕ) (k bound most : ℕ) → length bounds ≡ 10 → k < 10 → bound ≤ most → ((i : ℕ) → i < 10 → get_or bounds i 0 ≤ most) → (i : ℕ) → i < 10 → get_or (set bounds k bound) i 0 ≤ most
inside_set bounds k bound most long lk le all i l = grind (arith, get_or-set_same, get_or-set_other)

-- The first bound, and whether the uses beside a bound are free.
lower_counted : (bounds : List ℕ) (k : ℕ) → 0 < length bounds → get_or (set bounds k (get_or bounds k 0 + 1)) 0 0 + cond (is_free_use (numbered (suc k))) 1 0 ≡ get_or bounds 0 0 + cond (is_free_use (numbered k)) 1 0
lower_counted bounds k l = search (rules)

raise_counted : (bounds : List ℕ) (k : ℕ) → 0 < length bounds → 0 < get_or bounds k 0 → get_or (set bounds k (get_or bounds k 0 - 1)) 0 0 + cond (is_free_use (numbered k)) 1 0 ≡ get_or bounds 0 0 + cond (is_free_use (numbered (suc k))) 1 0
raise_counted bounds k l h = search (rules)

-- How many uses are of a kind, after one place's slot_use is another.
pub count_set : {X : Type 0} (p : X → Bool) (xs : List X) (place : ℕ) (old new : X) → slice_get xs place ≡ Some old → count_by p (set xs place new) + cond (p old) 1 0 ≡ count_by p xs + cond (p new) 1 0
count_set p xs place old new at = grind (arith, get_or_from_slice_get xs place old old at, sum_by-set, slice_get_within xs place old at)

-- One place of an arrangement changes its slot_use to the one beside it.
module _ (order positions bounds : List ℕ) (place : ℕ) (a : IsArranged order positions bounds) where
  abbrev uses : List SlotUse
  uses = map (use_at bounds) positions

  pub use_here : (old : SlotUse) → slice_get uses place ≡ Some old → (place < length order) × (use_at bounds (get_or positions place 0) ≡ old)
  use_here old at = grind (arith, slice_get_within uses place old at, length-map positions (use_at bounds), get_or-map (use_at bounds) positions place 0 old, get_or_from_slice_get uses place old old at)

  pub number_here : (k : ℕ) → slice_get uses place ≡ Some (numbered k) → number_at bounds (get_or positions place 0) ≡ k
  number_here k at = grind (arith, use_here, number_numbered)

  pub bound_some : (k : ℕ) → k < 9 → slice_get uses place ≡ Some (numbered k) → 1 ≤ get_or bounds k 0
  bound_some k few at = grind (arith, number_here, number_below)

  -- a move to the bound at a number, which shifts past it
  pub record IsStep (k to bound : ℕ) (slot_use : SlotUse) : Type 0 where
    pub here : place < length order
    pub there : to < length order
    pub arranged : IsArranged (moved_order order positions place to) (moved_positions order positions place to) (set bounds k bound)
    pub same : map (use_at (set bounds k bound)) (moved_positions order positions place to) ≡ set uses place slot_use

  step_from : (k to bound : ℕ) (old slot_use : SlotUse) → slice_get uses place ≡ Some old → k < 10 → (lp : place < length order) (lt : to < length order)
      → map (use_at (set bounds k bound)) (moved_positions order positions place to) ≡ set uses place slot_use
      → ((i : ℕ) → i < k → get_or bounds i 0 ≤ bound) → ((j : ℕ) → k < j → j < 10 → bound ≤ get_or bounds j 0) → bound ≤ length order
      → get_or (set bounds k bound) 0 0 + cond (is_free_use old) 1 0 ≡ get_or bounds 0 0 + cond (is_free_use slot_use) 1 0
      → IsStep k to bound slot_use
  step_from k to bound old slot_use at lk lp lt same low high most count =
      grind (arith, length_order order positions place to a.inverse lp lt, inverse_moved order positions place to a.inverse lp lt, length-set bounds k bound, ascending_set bounds k bound a.bounded lk low high a.ascending, inside_set bounds k bound, count_set is_free_use uses place old slot_use at)

  -- a place goes down, ..
  pub lowers : (k : ℕ) → k < 9 → slice_get uses place ≡ Some (numbered (suc k)) → IsStep k (get_or bounds k 0) (get_or bounds k 0 + 1) (numbered k)
  lowers k few at =
      let lp = (use_here (numbered (suc k)) at).0 in
      let from = get_or positions place 0 in
      let number = number_here (suc k) at in
      let long = a.bounded in
      let past : get_or bounds k 0 ≤ from = number_past bounds from k (omega arith) in
      let below : from < get_or bounds (suc k) 0 = subst (λ n. from < get_or bounds n 0) number (number_below bounds from (omega arith)) in
      let within = a.inverse.within place lp in
      let lt : get_or bounds k 0 < length order = omega arith in
      step_from k (get_or bounds k 0) (get_or bounds k 0 + 1) (numbered (suc k)) (numbered k) at (omega arith) lp lt
      (uses_moved order positions place (get_or bounds k 0) a.inverse lp lt bounds (set bounds k (get_or bounds k 0 + 1)) (numbered k)
      (ap numbered (grind (arith, number_is (set bounds k (get_or bounds k 0 + 1)) (get_or bounds k 0) k, a.ascending, get_or-set_other, get_or-set_same, length-set)))
      (λ n. ap numbered (number_kept bounds k (get_or bounds k 0 + 1) from (beside from n) ∙ number ∙ sym (number_is bounds (get_or bounds k 0) (suc k) (omega arith) (λ j l. a.ascending j k (omega arith) (omega arith)) (omega arith))))
      (λ x m n. ap numbered (number_kept bounds k (get_or bounds k 0 + 1) x (beside x n))))
      (λ i l. let f = a.ascending i k (omega arith) (omega arith) in omega arith)
      (λ j l m. let f = a.ascending (suc k) j (omega arith) m in omega arith)
      (omega arith)
      (lower_counted bounds k (omega arith))
    where
      beside : (x : ℕ) → x ≢ get_or bounds k 0 → nat_lt x (get_or bounds k 0 + 1) ≡ nat_lt x (get_or bounds k 0)
      beside x n = grind (arith)

  -- .. or up.
  pub raises : (k : ℕ) → k < 9 → slice_get uses place ≡ Some (numbered k) → IsStep k (get_or bounds k 0 - 1) (get_or bounds k 0 - 1) (numbered (suc k))
  raises k few at =
      let lp = (use_here (numbered k) at).0 in
      let from = get_or positions place 0 in
      let number = number_here k at in
      let long = a.bounded in
      let below : from < get_or bounds k 0 = subst (λ n. from < get_or bounds n 0) number (number_below bounds from (omega arith)) in
      let room = a.inside k (omega arith) in
      let next = a.ascending k (suc k) (omega arith) (omega arith) in
      let to = get_or bounds k 0 - 1 in
      let lt : get_or bounds k 0 - 1 < length order = omega arith in
      step_from k to to (numbered k) (numbered (suc k)) at (omega arith) lp lt
      (uses_moved order positions place to a.inverse lp lt bounds (set bounds k to) (numbered (suc k))
      (let at_to : number_at (set bounds k to) to ≡ suc k = grind (arith, number_is (set bounds k to) to (suc k), past from number, get_or-set_other, get_or-set_same, length-set) in ap numbered at_to)
      (λ n. ap numbered (number_kept bounds k to from (beside below from n) ∙ number ∙ sym (number_is bounds to k (omega arith) (λ j l. let f = past from number j l in omega arith) (omega arith))))
      (λ x m n. ap numbered (number_kept bounds k to x (beside below x n))))
      (λ i l. let f = past from number i l in omega arith)
      (λ j l m. let f = a.ascending k j (omega arith) m in omega arith)
      (omega arith)
      (raise_counted bounds k (omega arith) (omega arith))
    where
      past : (x : ℕ) → number_at bounds x ≡ k → (j : ℕ) → j < k → get_or bounds j 0 ≤ x
      past x number j l = number_past bounds x j (omega arith)

      beside : get_or positions place 0 < get_or bounds k 0 → (x : ℕ) → x ≢ get_or bounds k 0 - 1 → nat_lt x (get_or bounds k 0 - 1) ≡ nat_lt x (get_or bounds k 0)
      beside some x n = grind (arith)

pub arranged_same : (order order_too positions positions_too bounds bounds_too : List ℕ) → order ≡ order_too → positions ≡ positions_too → bounds ≡ bounds_too → IsArranged order_too positions_too bounds_too → IsArranged order positions bounds
arranged_same order order_too positions positions_too bounds bounds_too p q r h = grind (arith)

-- The free places are the first ones of the order.
record TakenAt (count p : ℕ) (order : List ℕ) : Type 0 where
  at : ℕ
  less : at < count
  inside : at < length order
  is : get_or order at 0 ≡ p

taken_at : (count : ℕ) (order : List ℕ) (p : ℕ) → among (take count order) p ≡ true → TakenAt count p order
taken_at (suc count) (x ∷ order) p a = ⊎_elim
    (λ (e : eqb x p ≡ true). record { at = 0; less = omega arith; inside = omega arith; is = eqb-true x p e })
    (λ (e : among (take count order) p ≡ true). let more = taken_at count order p e in record { at = suc more.at; less = let l = more.less in omega arith; inside = let l = more.inside in omega arith; is = more.is })
    (or_cases (eqb x p) (among (take count order) p) a)
taken_at count order p a = grind (arith)

among_taken : (count : ℕ) (order : List ℕ) (at : ℕ) → at < count → at < length order → among (take count order) (get_or order at 0) ≡ true
among_taken (suc count) (x ∷ order) (suc at) l m = or_right (eqb x (get_or order at 0)) (among (take count order) (get_or order at 0)) (among_taken count order at (omega arith) (omega arith))
among_taken count order at l m = grind (arith)

pub free_listed : (order positions bounds : List ℕ) (p : ℕ) → IsArranged order positions bounds → among (take (get_or bounds 0 0) order) p ≡ true → free_at (map (use_at bounds) positions) p ≡ true
free_listed order positions bounds p a h = grind (arith, taken_at (get_or bounds 0 0) order p h, slice_get-map (use_at bounds) positions p, slice_get-get_or, free_number, lt-ltb)

pub listed_free : (order positions bounds : List ℕ) (p : ℕ) → IsArranged order positions bounds → free_at (map (use_at bounds) positions) p ≡ true → among (take (get_or bounds 0 0) order) p ≡ true
listed_free order positions bounds p a h = grind (arith, slice_get-map, free_number, ltb-true, slice_get_within, get_or_from_slice_get, among_taken)

-- Whether a place is free, by its position.
pub free_there : (positions bounds : List ℕ) (p : ℕ) → 0 < length bounds → free_at (map (use_at bounds) positions) p ≡ elim (slice_get positions p) as (λ x. Bool) [ None ↦ false | Some at ↦ nat_lt at (get_or bounds 0 0) ]
free_there positions bounds p some = grind (arith, slice_get-map, free_number)

-- The places that a caller keeps are between two bounds: the first one is there, ..
pub kept_first : (order positions bounds : List ℕ) (keeper place : ℕ) → IsArranged order positions bounds → keeper < 8 → get_or bounds (keeper + 1) 0 < get_or bounds (keeper + 2) 0 → place ≡ get_or order (get_or bounds (keeper + 1) 0) place
    → slice_get (map (use_at bounds) positions) place ≡ Some (Ended keeper)
kept_first order positions bounds keeper place a few some is = grind (arith, slice_get-get_or, number_is, slice_get-map)

-- .. or there is none.
pub kept_none : (order positions bounds : List ℕ) (keeper : ℕ) → IsArranged order positions bounds → keeper < 8 → get_or bounds (keeper + 2) 0 ≤ get_or bounds (keeper + 1) 0
    → (place : ℕ) → slice_get (map (use_at bounds) positions) place ≡ Some (Ended keeper) → ⊥
kept_none order positions bounds keeper a few none place at =
    grind (arith, number_here order positions bounds place a (suc (suc keeper)) at, number_past bounds (get_or positions place 0) (keeper + 1), number_below bounds (get_or positions place 0))
