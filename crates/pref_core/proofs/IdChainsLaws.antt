-- Links, as a row is looked for, added and removed.
use Rattle.pref_core.proofs.Common.{◌≡◌, ℕ, suc, ◌<◌, true, List, ◌∷◌, length, Option, Some, None, refl, sym, ap, ◌∙◌, subst, arith, ⊎_elim, inr, cases_eq, ltb-true, Version, row_at, ids_of, id_at, is_above, AreIds, LeadsTo, IsNode}
use Rattle.pref_core.proofs.Common.{AreLinked, IsOnWay, rank, IsBefore, slice_get-get_or, ◌^◌, false, set, slice_index, length-map, length-set, get_or-set_same, get_or-set_other, true≢false, IsPlaceOf, shown, home_of, AreLinks}
use Rattle.pref_core.proofs.Common.{false_from_ne_true}
use Rattle.pref_core.proofs.StabilityLaws.{slice_get-set_other}
use Rattle.pref_core.proofs.SlotUseLaws.{has_row_at, has_nowhere}

-- One step along a chain.
pub way_on : (limit capacity : ℕ) (homes : ℕ → ℕ) (ids : ℕ → Option ℕ) (links : ℕ → ℕ) (id node : ℕ) → AreLinked limit capacity homes ids links → homes id < capacity
    → IsOnWay limit capacity homes ids id node → is_above id (ids (links node)) ≡ true → ((p i : ℕ) → ids p ≡ Some i → p < capacity)
    → IsOnWay limit capacity homes ids id (links node) × (links node < capacity) × (rank (ids (links (links node))) < rank (ids (links node)))
way_on limit capacity homes ids links id node linked inside way above within = go (ids (links node)) refl above
  where
    leads : LeadsTo capacity homes ids (homes id) way.bound (links node)
    leads = linked (homes id) way.bound node inside way.is

    go : (o : Option ℕ) → ids (links node) ≡ o → is_above id o ≡ true
        → IsOnWay limit capacity homes ids id (links node) × (links node < capacity) × (rank (ids (links (links node))) < rank (ids (links node)))
    go None e s = absurd (cc)
    go (Some top) e s =
        let is : IsNode limit capacity homes ids (homes id) top (links node) = inr (e, leads.same top e) in
        let less = (linked (homes id) top (links node) inside is).less in (
          (record { bound = top; is = is; above = ltb-true id top s }),
          within (links node) top e,
          subst (λ o. rank (ids (links (links node))) < rank o) (sym e) (omega arith),
        )

-- An id at a place is within the list of ids.
pub id_within : (ids : List (Option ℕ)) (place id : ℕ) → id_at ids place ≡ Some id → place < length ids
id_within (x ∷ ids) (suc place) id at = let less = id_within ids place id at in omega arith
id_within ids place id at = grind (arith)

-- The id at a place of slots, and whether the row of an id stands there.
pub shows_row : (stamp id : ℕ) (slots : List (Option Version)) (place : ℕ) → id_at (ids_of stamp slots) place ≡ Some id → row_at stamp id slots place ≡ true
shows_row stamp id (slot ∷ slots) (suc place) at = shows_row stamp id slots place at
shows_row stamp id slots place at = grind (arith)

pub row_shown : (stamp id : ℕ) (slots : List (Option Version)) (place : ℕ) → row_at stamp id slots place ≡ true → id_at (ids_of stamp slots) place ≡ Some id
row_shown stamp id (slot ∷ slots) (suc place) at = row_shown stamp id slots place at
row_shown stamp id slots place at = grind (arith)

-- The row of an id stands behind the last node before it, or nowhere.
pub place_behind : (limit capacity : ℕ) (homes : ℕ → ℕ) (ids : ℕ → Option ℕ) (links : ℕ → ℕ) (id node place : ℕ) → AreLinked limit capacity homes ids links → homes id < capacity
    → IsBefore limit capacity homes ids links id node → ids place ≡ Some id → ids (links node) ≡ Some id
place_behind limit capacity homes ids links id node place linked inside before at =
    let most = (linked (homes id) before.way.bound node inside before.way.is).most place id at refl before.way.above in
    grind (arith)

-- What a node is called is its own.
one_node : (limit capacity : ℕ) (homes : ℕ → ℕ) (ids : ℕ → Option ℕ) (home other bound b node : ℕ) → ((place id : ℕ) → ids place ≡ Some id → place < capacity)
    → IsNode limit capacity homes ids home bound node → IsNode limit capacity homes ids other b node → (home ≡ other) × (bound ≡ b)
one_node limit capacity homes ids home other bound b node within is also = grind (arith)

-- A row that is added behind the last node before its id.
pub added : (limit capacity : ℕ) (homes : ℕ → ℕ) (ids after : ℕ → Option ℕ) (links linked_after : ℕ → ℕ) (id place node : ℕ) → AreIds limit ids → ((p i : ℕ) → ids p ≡ Some i → p < capacity)
    → AreLinked limit capacity homes ids links → homes id < capacity → IsBefore limit capacity homes ids links id node
    → place < capacity → ids place ≡ None → ((p : ℕ) → ids p ≡ Some id → ⊥)
    → after place ≡ Some id → ((p : ℕ) → (p ≡ place → ⊥) → after p ≡ ids p)
    → linked_after node ≡ place → linked_after place ≡ links node → ((n : ℕ) → (n ≡ node → ⊥) → (n ≡ place → ⊥) → linked_after n ≡ links n)
    → AreLinked limit capacity homes after linked_after
added limit capacity homes ids after links linked_after id place node known within linked inside before room empty absent here others to_place onward rest home b n less is =
    ⊎_elim at_place (λ (apart : n ≡ place → ⊥). ⊎_elim (at_node apart) (elsewhere apart) (cases_eq n node)) (cases_eq n place)
  where
    leads : LeadsTo capacity homes ids (homes id) before.way.bound (links node)
    leads = linked (homes id) before.way.bound node inside before.way.is

    -- a node after, other than the new one, was one before
    was_node : (n ≡ place → ⊥) → IsNode limit capacity homes ids home b n
    was_node apart = grind (arith)

    -- a link is never to the place that is empty
    kept : (h x l : ℕ) → LeadsTo capacity homes ids h x l → after l ≡ ids l
    kept h x l goes = others l (λ e. let far = goes.past (ap ids e ∙ empty) in omega arith)

    -- from the new row on, as before from its node on
    at_place : n ≡ place → LeadsTo capacity homes after home b (linked_after n)
    at_place e = let same = kept (homes id) before.way.bound (links node) leads in grind (arith, leads.same, leads.most, leads.past)

    -- the node before leads to the new row
    at_node : (n ≡ place → ⊥) → n ≡ node → LeadsTo capacity homes after home b (linked_after n)
    at_node apart e =
        let named = one_node limit capacity homes ids home (homes id) b before.way.bound n within (was_node apart)
        (subst (IsNode limit capacity homes ids (homes id) before.way.bound) (sym e) before.way.is) in grind (arith, leads.most)

    -- and no other node is moved
    elsewhere : (n ≡ place → ⊥) → (n ≡ node → ⊥) → LeadsTo capacity homes after home b (linked_after n)
    elsewhere apart other =
        let goes = linked home b n less (was_node apart) in
        let same = kept home b (links n) goes in
        let is_link = rest n other apart in
        grind (arith, goes.same, goes.most, goes.past, leads.most)

-- A row that is removed.
pub removed : (limit capacity : ℕ) (homes : ℕ → ℕ) (ids after : ℕ → Option ℕ) (links linked_after : ℕ → ℕ) (id place node : ℕ) → AreIds limit ids → ((p i : ℕ) → ids p ≡ Some i → p < capacity)
    → AreLinked limit capacity homes ids links → homes id < capacity → IsBefore limit capacity homes ids links id node
    → ids place ≡ Some id → links node ≡ place
    → after place ≡ None → ((p : ℕ) → (p ≡ place → ⊥) → after p ≡ ids p)
    → linked_after node ≡ links place → ((n : ℕ) → (n ≡ node → ⊥) → linked_after n ≡ links n)
    → AreLinked limit capacity homes after linked_after
removed limit capacity homes ids after links linked_after id place node known within linked inside before there led gone others onward rest home b n less is =
    ⊎_elim at_node elsewhere (cases_eq n node)
  where
    was_node : IsNode limit capacity homes ids home b n
    was_node = grind (arith)

    leads : LeadsTo capacity homes ids (homes id) before.way.bound (links node)
    leads = linked (homes id) before.way.bound node inside before.way.is

    -- the node before leads on to what the row led to
    at_node : n ≡ node → LeadsTo capacity homes after home b (linked_after n)
    at_node e =
        let named = one_node limit capacity homes ids home (homes id) b before.way.bound n within was_node
        (subst (IsNode limit capacity homes ids (homes id) before.way.bound) (sym e) before.way.is) in
        let goes = linked (homes id) id place inside (inr (there, refl)) in
        grind (arith, leads.most, goes.same, goes.most, goes.past)

    -- and no other node led to it
    elsewhere : (n ≡ node → ⊥) → LeadsTo capacity homes after home b (linked_after n)
    elsewhere other =
        let goes = linked home b n less was_node in
        let is_link = rest n other in
        let apart : links n ≡ place → ⊥ = grind (arith, goes.same, goes.most, leads.most, known.once, known.small) in
        grind (arith, goes.same, goes.most, goes.past)

pub within_at : (stamp : ℕ) (slots : List (Option Version)) (place id : ℕ) → id_at (ids_of stamp slots) place ≡ Some id → place < length slots
within_at stamp slots place id at = let less = id_within (ids_of stamp slots) place id at in let long = length-map slots (shown stamp) in omega arith

pub id_at-here : (ids : List (Option ℕ)) (place : ℕ) (new : Option ℕ) → place < length ids → id_at (set ids place new) place ≡ new
id_at-here ids place new l = grind (arith, slice_get-get_or (set ids place new) place None, length-set ids place new, get_or-set_same ids place new None l)

pub id_at-there : (ids : List (Option ℕ)) (place : ℕ) (new : Option ℕ) (p : ℕ) → (p ≡ place → ⊥) → id_at (set ids place new) p ≡ id_at ids p
id_at-there ids place new p d = ap (λ (o : Option (Option ℕ)). elim o as (λ x. Option ℕ) [ None ↦ None | Some id ↦ id ]) (slice_get-set_other ids p place new d)

-- An id that no link of its chain leads to is at no place.
pub nowhere : (stamp id : ℕ) (slots : List (Option Version)) (links : List ℕ) (node : ℕ) → 0 < length slots → AreLinks (length slots) (ids_of stamp slots) links
    → IsBefore (2 ^ 64) (length slots) (home_of (length slots)) (id_at (ids_of stamp slots)) (slice_index links) id node → row_at stamp id slots (slice_index links node) ≡ false
    → IsPlaceOf stamp id slots None
nowhere stamp id slots links node some h before away = has_nowhere stamp id slots (λ place l. false_from_ne_true (row_at stamp id slots place) (λ e.
    let behind = place_behind (2 ^ 64) (length slots) (home_of (length slots)) (id_at (ids_of stamp slots)) (slice_index links) id node place h.linked (omega arith) before
    (row_shown stamp id slots place e) in
    true≢false (sym (shows_row stamp id slots (slice_index links node) behind) ∙ away)))

-- A row is added.
pub links_added : (stamp id : ℕ) (slots : List (Option Version)) (links : List ℕ) (place node onward : ℕ) → AreLinks (length slots) (ids_of stamp slots) links
    → AreIds (2 ^ 64) (id_at (ids_of stamp slots))
    → place < length slots → id_at (ids_of stamp slots) place ≡ None → IsPlaceOf stamp id slots None
    → IsBefore (2 ^ 64) (length slots) (home_of (length slots)) (id_at (ids_of stamp slots)) (slice_index links) id node → node < length links → onward ≡ slice_index links node
    → AreLinks (length slots) (set (ids_of stamp slots) place (Some id)) (set (set links place onward) node place)
links_added stamp id slots links place node onward h known room empty absent before inside is =
    let ids = ids_of stamp slots in
    let long = h.long in
    let size = h.size in
    record {
      size = length-set ids place (Some id) ∙ h.size;
      long = length-set (set links place onward) node place ∙ length-set links place onward ∙ h.long;
      linked =
          added (2 ^ 64) (length slots) (home_of (length slots)) (id_at ids) (id_at (set ids place (Some id))) (slice_index links) (slice_index (set (set links place onward) node place)) id place node
          known (within_at stamp slots) h.linked (omega arith) before room empty
          (λ p at. true≢false (sym (has_row_at stamp id slots p (shows_row stamp id slots p at)) ∙ absent))
          (id_at-here ids place (Some id) (omega arith)) (id_at-there ids place (Some id))
          (get_or-set_same (set links place onward) node place 0 (let kept = length-set links place onward in omega arith))
          (get_or-set_other (set links place onward) node place place 0 (λ (e : place ≡ node). let way = before.way.is in grind (arith)) ∙ get_or-set_same links place onward 0 (omega arith) ∙ is)
          (λ n other off. get_or-set_other (set links place onward) node n place 0 other ∙ get_or-set_other links place n onward 0 off);
    }

-- A row is removed.
pub links_removed : (stamp id : ℕ) (slots : List (Option Version)) (links : List ℕ) (place node onward : ℕ) → AreLinks (length slots) (ids_of stamp slots) links
    → AreIds (2 ^ 64) (id_at (ids_of stamp slots))
    → row_at stamp id slots place ≡ true
    → IsBefore (2 ^ 64) (length slots) (home_of (length slots)) (id_at (ids_of stamp slots)) (slice_index links) id node → node < length links → onward ≡ slice_index links place
    → AreLinks (length slots) (set (ids_of stamp slots) place None) (set links node onward)
links_removed stamp id slots links place node onward h known shows before inside is =
    let ids = ids_of stamp slots in
    let there = row_shown stamp id slots place shows in
    let room = within_at stamp slots place id there in
    let size = h.size in
    let behind = place_behind (2 ^ 64) (length slots) (home_of (length slots)) (id_at ids) (slice_index links) id node place h.linked (omega arith) before there in
    record {
      size = length-set ids place None ∙ h.size;
      long = length-set links node onward ∙ h.long;
      linked = removed (2 ^ 64) (length slots) (home_of (length slots)) (id_at ids) (id_at (set ids place None)) (slice_index links) (slice_index (set links node onward)) id place node
          known (within_at stamp slots) h.linked (omega arith) before there (known.once (slice_index links node) place id behind there)
          (id_at-here ids place None (omega arith)) (id_at-there ids place None) (get_or-set_same links node onward 0 inside ∙ is) (λ n other. get_or-set_other links node n onward 0 other);
    }
