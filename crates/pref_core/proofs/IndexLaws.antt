-- An index follows the store through each op that is done.
use Rattle.pref_core.proofs.Common.{drop, get_or, length, slice_get, added_by, ◌≤◌, ◌≡◌, ℕ, suc, ◌+◌, ◌<◌, Bool, true, false, ◌&&◌, ◌||◌, cond, eqb, nat_lt, List, [], ◌∷◌, map, set, Option, Some, None, is_some, refl, sym, ap, ◌∙◌}
use Rattle.pref_core.proofs.Common.{subst, arith, AllByRecursion, eqb-true, false_from_ne_true, or_right, Version, Change, Add, Set, Remove, Call, Op, Entry, Row, ended_by, begun_by, among, has}
use Rattle.pref_core.proofs.Common.{is_change, succeeds, added, changes_of, ended, begun, Contents, IsWithin, visible, begins, new_version, close, is_free, filled, slots_after, is_next, applied}
use Rattle.pref_core.proofs.Common.{slot_of, Points, PointsAll, given, placed_rows, adds, IsPlaceOf, IsIndexOf}
use Rattle.pref_core.proofs.OutcomeLaws.{IsAllowed-from}
use Rattle.pref_core.proofs.ChangesLaws.{AreApart, drop_at, drop_item, formed_apart, found_all}
use Rattle.pref_core.proofs.FilledLaws.{none_missing, slots_still}
use Rattle.pref_core.proofs.IndexedRows.{closed_place, ended_place, other_place, row_at-new_version}
use Rattle.pref_core.proofs.StandsForLaws.{some_then}
use Rattle.pref_core.proofs.TableLaws.{has_below}

abbrev pub Pairs : Type 0
Pairs = List (ℕ × ℕ)

-- The place of an id once rows began, each in its slot: ..
module _ (ns : List ℕ) (made id : ℕ) where
  -- .. one row, ..
  one_placed : (place : ℕ) (fresh : Entry) (slots : List (Option Version)) (before found : Option ℕ) (named : Bool) → is_free (made ∷ ns) slots place ≡ true → IsPlaceOf made id slots before
      → (eqb fresh.id id ≡ true → named ≡ false) → (eqb fresh.id id ≡ false → before ≡ cond named None found) → IsPlaceOf made id (set slots place (new_version made fresh)) (cond named None (cond (eqb fresh.id id) (Some place) found))
  one_placed place fresh slots before found named free is new old = grind (arith, eqb-true, row_at-new_version, other_place)

  -- .. and all rows of a commit, where the ids that it names are gone before.
  filled_place : (changes : List Change) (next : ℕ) (places : List ℕ) (slots after : List (Option Version)) (found : Option ℕ) → filled (made ∷ ns) made places (begun_by next changes) slots ≡ Some after → AreApart (ended_by changes)
      → (among (ended_by changes) id ≡ true → id < next) → IsPlaceOf made id slots (cond (among (ended_by changes) id) None found) → IsPlaceOf made id after (given (placed_rows next changes places) id found)
  filled_place [] next [] slots after found e apart low is = subst (λ l. IsPlaceOf made id l found) (let same : slots ≡ after = cc in same) is
  filled_place [] next (place ∷ places) slots after found e apart low is = absurd (cc)
  filled_place (Add row ∷ rest) next [] slots after found e apart low is = absurd (cc)
  filled_place (Set other row ∷ rest) next [] slots after found e apart low is = absurd (cc)
  filled_place (Add row ∷ rest) next (place ∷ places) slots after found e apart low is =
      let later = set slots place (new_version made (record { id = next; row = row })) in
      let begun = some_then (is_free (made ∷ ns) slots place) (filled (made ∷ ns) made places (begun_by (suc next) rest) later) after e in
      filled_place rest (suc next) places later after (cond (eqb next id) (Some place) found) begun.1 apart (λ there. let below = low there in omega arith)
      (one_placed place (record { id = next; row = row }) slots (cond (among (ended_by rest) id) None found) found (among (ended_by rest) id) begun.0 is (λ same. false_from_ne_true (among (ended_by rest) id) (λ there. let below = low there in let one = eqb-true next id same in omega arith)) (λ other. refl))
  filled_place (Set other row ∷ rest) next (place ∷ places) slots after found e apart low is =
      let later = set slots place (new_version made (record { id = other; row = row })) in
      let begun = some_then (is_free (made ∷ ns) slots place) (filled (made ∷ ns) made places (begun_by next rest) later) after e in
      filled_place rest next places later after (cond (eqb other id) (Some place) found) begun.1 apart.1 (λ there. low (or_right (eqb other id) (among (ended_by rest) id) there))
      (one_placed place (record { id = other; row = row }) slots (cond (among (ended_by (Set other row ∷ rest)) id) None found) found (among (ended_by rest) id) begun.0 is
      (λ same. subst (λ n. among (ended_by rest) n ≡ false) (eqb-true other id same) apart.0) (λ differ. ap (λ (b : Bool). cond (b || among (ended_by rest) id) None found) differ))
  filled_place (Remove other ∷ rest) next places slots after found e apart low is = grind (arith, filled_place rest next places slots after)

-- a call that is no commit changes nothing
no_changes : (call : Call) → is_change call ≡ false → changes_of call ≡ []
no_changes call still = grind (arith)

-- The rows of these ids are there, each named once and below the next one, and an index gives their places.
pub record AreThere (contents : Contents) (next : ℕ) (ids : List ℕ) (index : Pairs) : Type 0 where
  pub apart : AreApart ids
  pub below : (id : ℕ) → among ids id ≡ true → id < next
  pub there : (id : ℕ) → among ids id ≡ true → has (visible contents.stamp contents.slots) id ≡ true
  pub placed : (id : ℕ) → among ids id ≡ true → IsPlaceOf contents.stamp id contents.slots (slot_of index id)

-- what each id's place is in these slots at this stamp
abbrev IsIndexAt : ℕ → List (Option Version) → Pairs → Type 0
IsIndexAt stamp slots index = (id : ℕ) → IsPlaceOf stamp id slots (slot_of index id)

module _ (contents : Contents) (op : Op) (next : is_next contents op ≡ true) where
  -- the index of what the op leaves, by the stamp and the slots that it leaves
  index_after : (after : List (Option Version)) (b : Bool) (later : Pairs) → slots_after contents op ≡ Some after → (is_change op.call && succeeds op.outcome) ≡ b → IsIndexAt (cond b (suc contents.stamp) contents.stamp) after later → IsIndexOf (applied contents op) later
  index_after after true later e c h = rw (next, e) (rw c h)
  index_after after false later e c h = rw (next, e) (rw c h)

-- A call that makes no change leaves the index as it is.
pub indexed_still : (contents : Contents) (op : Op) (index : Pairs) → is_next contents op ≡ true → is_some (slots_after contents op) ≡ true → (is_change op.call && succeeds op.outcome) ≡ false → IsIndexOf contents index → IsIndexOf (applied contents op) index
indexed_still contents op index next fits still is = index_after contents op next contents.slots false index (slots_still contents op still fits) still is

module _ (contents : Contents) (within : AllByRecursion (IsWithin contents.next_id contents.stamp) contents.slots) where
  -- the place of an id once the rows of these ids ended
  closed_at : (ids : List ℕ) (id : ℕ) (found : Option ℕ) → IsPlaceOf contents.stamp id contents.slots found → IsPlaceOf (suc contents.stamp) id (map (close ids (suc contents.stamp)) contents.slots) (cond (among ids id) None found)
  closed_at ids id found is = grind (arith, ended_place contents.next_id contents.stamp id ids contents.slots within, closed_place contents.next_id contents.stamp id ids contents.slots found within)

  -- The index of a store, once the rows that a legal op begins or removes were placed, is that of the store after it.
  pub indexed : (op : Op) (before later : Pairs) → is_next contents op ≡ true → is_some (slots_after contents op) ≡ true → succeeds op.outcome ≡ true → IsIndexOf contents before
      → PointsAll before (placed_rows contents.next_id (changes_of op.call) op.slots) later → IsIndexOf (applied contents op) later
  indexed op before later next fits success is found = go (is_change op.call) refl
    where
      done : is_change op.call ≡ true → (after : List (Option Version))
          → filled (suc contents.stamp ∷ begins contents.callers) (suc contents.stamp) op.slots (begun contents.next_id op.call) (map (close (ended op.call) (suc contents.stamp)) contents.slots) ≡ Some after → IsIndexAt (suc contents.stamp) after later
      done change after fills id =
          let all = none_missing contents op.call op.outcome (IsAllowed-from contents op next).outcome success change in
          subst (IsPlaceOf (suc contents.stamp) id after) (sym (found id))
          (filled_place (begins contents.callers) (suc contents.stamp) id (changes_of op.call) contents.next_id op.slots (map (close (ended op.call) (suc contents.stamp)) contents.slots) after (slot_of before id) fills
          (formed_apart op.call (IsAllowed-from contents op next).formed) (λ there. has_below contents.next_id contents.stamp contents.stamp contents.slots id within (found_all (ended op.call) (visible contents.stamp contents.slots) all id there)) (closed_at (ended op.call) id (slot_of before id) (is id)))

      placed : (o : Option (List (Option Version))) → slots_after contents op ≡ o → is_some o ≡ true → is_change op.call ≡ true → IsIndexOf (applied contents op) later
      placed None e some change = absurd (cc)
      placed (Some after) e some change =
          let both : (is_change op.call && succeeds op.outcome) ≡ true = ap (λ b. b && succeeds op.outcome) change ∙ success in
          index_after contents op next after true later e both (done change after (rw both at e))

      go : (b : Bool) → is_change op.call ≡ b → IsIndexOf (applied contents op) later
      go b e = grind (arith, placed, indexed_still)

  -- Before an op is done, it gives the places of the rows that the op ends.
  pub ended_there : (op : Op) (index : Pairs) → is_next contents op ≡ true → succeeds op.outcome ≡ true → IsIndexOf contents index → AreThere contents contents.next_id (ended op.call) index
  ended_there op index next success is = record {
    apart = formed_apart op.call (IsAllowed-from contents op next).formed;
    below = λ id ends. has_below contents.next_id contents.stamp contents.stamp contents.slots id within (there id ends);
    there = there;
    placed = λ id ends. is id;
  }
    where
      there : (id : ℕ) → among (ended op.call) id ≡ true → has (visible contents.stamp contents.slots) id ≡ true
      there id ends = grind (arith, found_all, no_changes)

-- A row is added only by a call that adds one.
pub adds_planned : (contents : Contents) (op : Op) → is_next contents op ≡ true → adds op.outcome ≡ true → nat_lt 0 (added op.call) ≡ true
adds_planned contents op next h = grind (arith)

-- What is left of the rows that are placed, and room for those that are added: ..
pub record PlacesRest (contents : Contents) (next : ℕ) (changes : List Change) (slots : List ℕ) (index : Pairs) (room : ℕ) (all : ℕ → Option ℕ) : Type 0 where
  pub gives : (id : ℕ) → given (placed_rows next changes slots) id (slot_of index id) ≡ all id
  pub olds : AreThere contents next (ended_by changes) index
  pub fits : added_by changes ≤ room

module _ (contents : Contents) (next at used : ℕ) (changes : List Change) (slots : List ℕ) (index new : Pairs) (room later : ℕ) (all : ℕ → Option ℕ) where
  -- .. one more is added, ..
  pub adds_one : (slot : ℕ) (row : Row) → slice_get changes at ≡ Some (Add row) → slot ≡ get_or slots used slot → used < length slots → room ≤ later + 1
      → PlacesRest contents next (drop at changes) (drop used slots) index room all → Points index next (Some slot) new → PlacesRest contents (next + 1) (drop (at + 1) changes) (drop (used + 1) slots) new later all
  adds_one slot row here is inside less h points = let first = rw (drop_at changes at (Add row) here, drop_item slots used slot slot is inside) at h in grind (arith)

  -- .. or another slot is given to a row that is there, ..
  pub sets_one : (id slot : ℕ) (row : Row) → slice_get changes at ≡ Some (Set id row) → slot ≡ get_or slots used slot → used < length slots → room ≤ later
      → PlacesRest contents next (drop at changes) (drop used slots) index room all → Points index id (Some slot) new → PlacesRest contents next (drop (at + 1) changes) (drop (used + 1) slots) new later all
  sets_one id slot row here is inside less h points = let first = rw (drop_at changes at (Set id row) here, drop_item slots used slot slot is inside) at h in grind (arith)

  -- .. or none.
  pub removes_one : (id : ℕ) → slice_get changes at ≡ Some (Remove id) → room ≤ later
      → PlacesRest contents next (drop at changes) (drop used slots) index room all → Points index id None new → PlacesRest contents next (drop (at + 1) changes) (drop used slots) new later all
  removes_one id here less h points = let first = rw (drop_at changes at (Remove id) here) at h in grind (arith)

-- the rows of the changes from a place on, whose first sets one
pub rest_there : (contents : Contents) (next : ℕ) (index : Pairs) (changes : List Change) (at id : ℕ) (row : Row) → slice_get changes at ≡ Some (Set id row) → AreThere contents next (ended_by (drop at changes)) index → AreThere contents next (id ∷ ended_by (drop (at + 1) changes)) index
rest_there contents next index changes at id row here = subst (λ l. AreThere contents next (ended_by l) index) (drop_at changes at (Set id row) here)

-- what an index has already
pub points_still : (index : Pairs) (id : ℕ) (slot : Option ℕ) → slot_of index id ≡ slot → Points index id slot index
points_still index id slot e other = grind (arith)
