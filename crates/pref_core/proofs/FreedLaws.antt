-- The slots that ended rows leave free.
use Rattle.pref_core.proofs.Common.{length-append, ◌≡◌, ℕ, suc, ◌+◌, ◌≤◌, ◌^◌, Bool, true, false, cond, eqb, List, [], ◌∷◌, ◌++◌, map, length, take, drop, set, Option, Some, None, slice_get}
use Rattle.pref_core.proofs.Common.{refl, sym, ap, ◌∙◌, subst, arith, cases_eq, count_by, length-map, map-set, slice_get-map, eqb-true, or_from, true≢false, Version, SlotUse, Live, Change}
use Rattle.pref_core.proofs.Common.{ended_by, among, State, missing, Contents, StandsFor, IsWithin, visible, begins, close, is_free, is_free_use, free_at, use_of, uses_of, IsBounded}
use Rattle.pref_core.proofs.Common.{row_at, IsPlaceOf, AllByRecursion, not, is_needed, has, id_at, AreIds, frees_at, is_open, IsFreed, false_from_ne_true}
use Rattle.std.proofs.lemmas.List.Folds.{find-append}
use Rattle.std.specs.Option.{option_or}
use Rattle.pref_core.proofs.ChangesLaws.{ended_next, AreApart, among_append, among_inside}
use Rattle.pref_core.proofs.FilledLaws.{close_more, ids_next, known_ids, ids_closed, one_closed, row_live}
use Rattle.pref_core.proofs.IndexedRows.{row_at-close}
use Rattle.pref_core.proofs.ChosenSlots.{close_none}
use Rattle.pref_core.proofs.SlotKeys.{within-close}
use Rattle.pref_core.proofs.SlotSetsLaws.{count_set}
use Rattle.pref_core.proofs.SlotUseLaws.{holds_there, has_row_at, row_version, free_use, needed_uses, spare_use}
use Rattle.pref_core.proofs.StabilityLaws.{slice_get-set_same, slice_get-set_other}

-- A row leaves its slot free where no query needs its version as it ends.
pub frees_row : (stamps ids : List ℕ) (next stamp id place : ℕ) (slots : List (Option Version)) (version : Version) → AllByRecursion (IsWithin next stamp) slots → slice_get slots place ≡ Some (Some version) → among ids id ≡ true
    → row_at stamp id slots place ≡ true → not (is_needed stamps (Some (record version { death = Some (stamp + 1) }))) ≡ frees_at stamps ids (stamp + 1) slots place
frees_row stamps ids next stamp id place slots version within here named shown = grind (arith, holds_there, within)

-- An id comes before no other place of ids that differ, ..
apart_before : (xs ys : List ℕ) (id : ℕ) → AreApart (xs ++ id ∷ ys) → among xs id ≡ false
apart_before [] ys id h = refl
apart_before (x ∷ xs) ys id h = or_from (eqb x id) (among xs id) (false_from_ne_true (eqb x id) (λ e. true≢false (sym (ap (among (xs ++ id ∷ ys)) (eqb-true x id e) ∙ among_inside xs ys id) ∙ h.0))) (apart_before xs ys id h.1)

-- .. so no change before names the id that a change does.
pub named_once : (changes : List Change) (at : ℕ) (change : Change) (id : ℕ) → slice_get changes at ≡ Some change → ended_by (change ∷ []) ≡ id ∷ [] → AreApart (ended_by changes) → among (ended_by (take at changes)) id ≡ false
named_once changes at change id here named apart = apart_before (ended_by (take at changes)) (ended_by (drop (at + 1) changes)) id (subst AreApart (ended_next changes at change id here named) apart)

-- what the slots are used for once these rows ended
abbrev pub uses_closed : Contents → List ℕ → List SlotUse
uses_closed contents ids = map (use_of contents.callers) (map (close ids (suc contents.stamp)) contents.slots)

-- What was found of the first of the rows that end: ..
pub record FreesUpTo (contents : Contents) (done freed : List ℕ) : Type 0 where
  pub there : missing done (visible contents.stamp contents.slots) ≡ None
  pub opens : (place : ℕ) → free_at (uses_closed contents done) place ≡ is_open (uses_of contents) freed place
  pub counted : count_by is_free_use (uses_closed contents done) ≡ count_by is_free_use (uses_of contents) + length freed
  pub few : length freed ≤ length done

-- .. of none, ..
pub frees_none : (contents : Contents) → FreesUpTo contents [] []
frees_none contents = let same : uses_closed contents [] ≡ uses_of contents = ap (map (use_of contents.callers)) (close_none (suc contents.stamp) contents.slots) in grind (arith)

missing_after : (done rest : List ℕ) (contents : Contents) → missing done (visible contents.stamp contents.slots) ≡ None → missing (done ++ rest) (visible contents.stamp contents.slots) ≡ missing rest (visible contents.stamp contents.slots)
missing_after done rest contents none = find-append (λ id. not (has (visible contents.stamp contents.slots) id)) done rest ∙ ap (λ o. option_or o (missing rest (visible contents.stamp contents.slots))) none

-- .. up to the first row that isn't there, ..
pub frees_missing : (contents : Contents) (ids done rest freed : List ℕ) (id : ℕ) → ids ≡ done ++ id ∷ rest → FreesUpTo contents done freed → IsPlaceOf contents.stamp id contents.slots None → missing ids (visible contents.stamp contents.slots) ≡ Some id
frees_missing contents ids done rest freed id is h absent = grind (arith, missing_after done (id ∷ rest) contents h.there)

-- a place that wasn't free is of another use, and listed where that is free
opens_one : (before now : List SlotUse) (freed : List ℕ) (place : ℕ) (slot_use : SlotUse) (b : Bool) → slice_get now place ≡ Some Live → is_free_use slot_use ≡ b → ((p : ℕ) → free_at now p ≡ is_open before freed p)
    → (p : ℕ) → free_at (set now place slot_use) p ≡ is_open before (cond b (freed ++ place ∷ []) freed) p
opens_one before now freed place slot_use b live is opens p =
    grind (arith, opens p, slice_get-set_same now place Live slot_use live, slice_get-set_other now p place slot_use, among_inside, among_append, cases_eq p place)

length_listed : (b : Bool) (freed : List ℕ) (place : ℕ) → length (cond b (freed ++ place ∷ []) freed) ≡ length freed + cond b 1 0
length_listed b freed place = grind (arith, length-append)

-- Several rows of a store that stands for a state.
module _ (contents : Contents) (state : State) (bounded : IsBounded contents) (stands : StandsFor contents state) where
  abbrev ns : List ℕ
  ns = begins contents.callers

  abbrev made : ℕ
  made = suc contents.stamp

  abbrev uses : List SlotUse
  uses = map (use_of contents.callers) contents.slots

  within : (ids : List ℕ) → AllByRecursion (IsWithin contents.next_id made) (map (close ids made) contents.slots)
  within ids = within-close ids contents.next_id contents.stamp contents.slots stands.within

  -- a slot that is free stays free
  still_free : (ids : List ℕ) (slots : List (Option Version)) (place : ℕ) → free_at (map (use_of contents.callers) slots) place ≡ true → free_at (map (use_of contents.callers) (map (close ids made) slots)) place ≡ true
  still_free ids (slot ∷ slots) (suc place) f = still_free ids slots place f
  still_free ids slots place f = grind (arith)

  frees_use : (ids : List ℕ) (place : ℕ) → free_at (map (use_of contents.callers) (map (close ids made) contents.slots)) place ≡ frees_at ns ids made contents.slots place
  frees_use ids place = grind (arith, slice_get-map, spare_use)

  -- a place is free once rows ended where they leave it free, ..
  pub frees_closed : (ids : List ℕ) (place : ℕ) → frees_at ns ids made contents.slots place ≡ true → is_free (made ∷ ns) (map (close ids made) contents.slots) place ≡ true
  frees_closed ids place f = free_use contents.next_id made contents.callers (map (close ids made) contents.slots) place (within-close ids contents.next_id contents.stamp contents.slots stands.within) ∙ frees_use ids place ∙ f

  -- .. or where it was free
  pub free_closed : (ids : List ℕ) (place : ℕ) → free_at uses place ≡ true → is_free (made ∷ ns) (map (close ids made) contents.slots) place ≡ true
  free_closed ids place free = free_use contents.next_id made contents.callers (map (close ids made) contents.slots) place (within ids) ∙ still_free ids contents.slots place free

  -- where a row stands it isn't
  pub row_taken : (id place : ℕ) → row_at contents.stamp id contents.slots place ≡ true → free_at uses place ≡ false
  row_taken id place row = ap (λ (o : Option SlotUse). elim o as (λ x. Bool) [ None ↦ false | Some slot_use ↦ is_free_use slot_use ]) (row_live contents.next_id contents.stamp id contents.slots stands.within contents.callers place row)

  -- .. and of one more, ..
  module _ (done freed : List ℕ) (id place : ℕ) (b : Bool) (new : among done id ≡ false) (row : row_at contents.stamp id contents.slots place ≡ true) (h : FreesUpTo contents done freed) where
    row_still : row_at made id (map (close done made) contents.slots) place ≡ true
    row_still = row_at-close contents.next_id contents.stamp id done contents.slots place stands.within new ∙ row

    live : slice_get (uses_closed contents done) place ≡ Some Live
    live = row_live contents.next_id made id (map (close done made) contents.slots) (within done) contents.callers place row_still

    record Ends : Type 0 where
      slot_use : SlotUse
      is : uses_closed contents (done ++ id ∷ []) ≡ set (uses_closed contents done) place slot_use

    ends : Ends
    ends =
        let found = row_version made id (map (close done made) contents.slots) place row_still in
        let known = ids_closed done made contents.slots (subst (λ l. AreIds (2 ^ 64) (id_at l)) (sym (ids_next contents.next_id contents.stamp contents.slots stands.within)) (known_ids contents state bounded stands)) in
        record {
          slot_use = _;
          is = ap (map (use_of contents.callers)) (sym (close_more done (id ∷ []) made contents.slots) ∙ one_closed contents.next_id made id (map (close done made) contents.slots) (within done) place found.0 known row_still found.1)
              ∙ map-set (use_of contents.callers) (map (close done made) contents.slots) place _;
        }

    pub frees_one : frees_at ns (done ++ id ∷ []) made contents.slots place ≡ b → FreesUpTo contents (done ++ id ∷ []) (cond b (freed ++ place ∷ []) freed)
    frees_one e =
        let found : is_free_use ends.slot_use ≡ b =
        sym (ap (λ (o : Option SlotUse). elim o as (λ x. Bool) [ None ↦ false | Some slot_use ↦ is_free_use slot_use ]) (slice_get-set_same (uses_closed contents done) place Live ends.slot_use live))
        ∙ sym (ap (λ (l : List SlotUse). free_at l place) ends.is) ∙ frees_use (done ++ id ∷ []) place ∙ e in
        let one = count_set is_free_use (uses_closed contents done) place Live ends.slot_use live in
        let more : count_by is_free_use (uses_closed contents (done ++ id ∷ [])) ≡ count_by is_free_use (set (uses_closed contents done) place ends.slot_use) = ap (count_by is_free_use) ends.is in
        let free : ◌≡◌ {A = ℕ} (cond (is_free_use ends.slot_use) 1 0) (cond b 1 0) = ap (λ t. cond t 1 0) found in
        record {
          there = missing_after done (id ∷ []) contents h.there ∙ ap (λ (t : Bool). cond (not t) (Some id) None) (has_row_at contents.stamp id contents.slots place row);
          opens = λ p. ap (λ (l : List SlotUse). free_at l p) ends.is ∙ opens_one uses (uses_closed contents done) freed place ends.slot_use b live found h.opens p;
          counted = omega (arith, h.counted, length_listed b freed place);
          few = grind (arith, h.few, length-append done (id ∷ []), length_listed b freed place);
        }

  -- .. and of all.
  pub freed_all : (ids freed : List ℕ) → FreesUpTo contents ids freed → IsFreed contents ids freed
  freed_all ids freed h = record {
    there = h.there;
    opens = λ place. free_use contents.next_id made contents.callers (map (close ids made) contents.slots) place (within ids) ∙ h.opens place;
    counted = omega (arith, h.counted, needed_uses contents.next_id made contents.callers (map (close ids made) contents.slots) (within ids), length-map contents.slots (close ids made));
  }
