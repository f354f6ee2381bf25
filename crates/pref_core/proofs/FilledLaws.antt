-- The rows that a call ends and begins, in their slots, one after the other, and what is kept beside the slots.
use Rattle.pref_core.proofs.Common.{◌≡◌, ℕ, zero, suc, ◌^◌, Bool, true, false, eqb, List, [], ◌∷◌, map, set, Option, Some, None, slice_get, refl, sym, ap, ap₂, ◌∙◌, arith, ⊎_elim}
use Rattle.pref_core.proofs.Common.{AllByRecursion, map-set, slice_get-map, and_parts, eqb-true, cases_eq, true≢false, Version, Caller, SlotUse, Live, is_visible, IsWithin}
use Rattle.pref_core.proofs.Common.{close, close_at, use_of, is_row, row_at, IsPlaceOf, ids_of, id_at, AreIds, AreLinks, ◌+◌, subst, length_permutation, Call, Entry, State, changes_of, ended, begun}
use Rattle.pref_core.proofs.Common.{added, missing, is_formed, Contents, StandsFor, visible, new_version, IsBounded, shown, IsTracked, AreFresh, ◌<◌, ◌&&◌, nat_eq, ◌++◌, length, drop, length-set}
use Rattle.pref_core.proofs.Common.{is_some, get_or, get_or_from_slice_get, drop_all, length-map, map-set_same, slice_get_within, le-leb, cases_lt, or_parts, Free, among, has, Op}
use Rattle.pref_core.proofs.Common.{Outcome, begins_row, success_outcome, is_change, succeeds, begins, stamps, grown, is_free, filled, outcome_at, is_next, slots_after, used}
use Rattle.pref_core.proofs.Common.{with_slots, are_free, same_Some}
use Rattle.pref_core.proofs.StabilityLaws.{slice_get-set_same, slice_get-set_other}
use Rattle.pref_core.proofs.SlotUseLaws.{holds_there, has_row_at, row_version, free_use}
use Rattle.pref_core.proofs.IdChainsLaws.{shows_row, row_shown, id_at-here, id_at-there}
use Rattle.pref_core.proofs.BoundsLaws.{next_id-small}
use Rattle.pref_core.proofs.ChangesLaws.{begun_fresh, found_all, formed_apart, among_append, drop_item}
use Rattle.pref_core.proofs.IndexedRows.{ended_place, other_place}
use Rattle.pref_core.proofs.SlotKeys.{within-close, within-more, eqb_comm, AllByRecursion-set}
use Rattle.pref_core.proofs.LineOfLaws.{one_place, one_line}
use Rattle.pref_core.proofs.Permutations.{IsPermutation-filter}
use Rattle.pref_core.proofs.ChosenSlots.{close_none, filled_snoc, free_still, taken}
use Rattle.pref_core.proofs.TableLaws.{has_below, has_visible-new}
use Rattle.pref_core.proofs.OutcomeLaws.{IsAllowed-from, succeeds-missing}
use Rattle.pref_core.proofs.StandsForLaws.{fills_nothing}

-- lists are equal where they are at each place
pub same_at_each : {X : Type 0} (xs ys : List X) → ((k : ℕ) → slice_get xs k ≡ slice_get ys k) → xs ≡ ys
same_at_each [] [] h = refl
same_at_each (x ∷ xs) (y ∷ ys) h = let first : x ≡ y = let e = h zero in cc in ap₂ ◌∷◌ first (same_at_each xs ys (λ k. h (suc k)))
same_at_each xs ys h = absurd (let bad = h zero in cc)

module _ (next made id : ℕ) (slots : List (Option Version)) (within : AllByRecursion (IsWithin next made) slots) where
  -- a slot that doesn't show the id's row stays
  stays : (k : ℕ) → (row_at made id slots k ≡ true → ⊥) → slice_get (map (close (id ∷ []) made) slots) k ≡ slice_get slots k
  stays k n = grind (arith, slice_get-map, holds_there)

  -- Where the table has no row of the id no slot is written.
  pub none_closed : IsPlaceOf made id slots None → map (close (id ∷ []) made) slots ≡ slots
  none_closed absent = same_at_each _ _ (λ k. stays k (λ r. true≢false (sym (has_row_at made id slots k r) ∙ absent)))

  -- Else the one where it stands is.
  pub one_closed : (place : ℕ) (version : Version) → AreIds (2 ^ 64) (id_at (ids_of made slots)) → row_at made id slots place ≡ true → slice_get slots place ≡ Some (Some version)
      → map (close (id ∷ []) made) slots ≡ set slots place (Some (record version { death = close_at made true version.death }))
  one_closed place version known row at = same_at_each _ _ (λ k. grind (arith, stays, row_shown, slice_get-map, slice_get-set_same, slice_get-set_other, eqb-true, known.once))

-- A version of a row is in no query's way: it has not ended.
pub row_alive : (next made id : ℕ) (callers : List Caller) (version : Version) → IsWithin next made (Some version) → is_row made id (Some version) ≡ true → use_of callers (Some version) ≡ Live
row_alive next made id callers version w r = grind (arith)

pub row_live : (next made id : ℕ) (slots : List (Option Version)) → AllByRecursion (IsWithin next made) slots → (callers : List Caller) (place : ℕ) → row_at made id slots place ≡ true → slice_get (map (use_of callers) slots) place ≡ Some Live
row_live next made id slots within callers place row = grind (arith, row_version, slice_get-map, row_alive, holds_there)

-- what the slots show once rows ended they showed before
row_back : (ids : List ℕ) (made x : ℕ) (slots : List (Option Version)) (p : ℕ) → row_at made x (map (close ids made) slots) p ≡ true → row_at made x slots p ≡ true
row_back ids made x (slot ∷ slots) (suc p) r = row_back ids made x slots p r
row_back ids made x slots p r = grind (arith)

pub ids_closed : (ids : List ℕ) (made : ℕ) (slots : List (Option Version)) → AreIds (2 ^ 64) (id_at (ids_of made slots)) → AreIds (2 ^ 64) (id_at (ids_of made (map (close ids made) slots)))
ids_closed ids made slots known = record {
  once = λ p q x at also. known.once p q x (was p x at) (was q x also);
  small = λ p x at. known.small p x (was p x at);
}
  where
    was : (p x : ℕ) → id_at (ids_of made (map (close ids made) slots)) p ≡ Some x → id_at (ids_of made slots) p ≡ Some x
    was p x at = row_shown made x slots p (row_back ids made x slots p (shows_row made x (map (close ids made) slots) p at))

-- A slot is written, and the lists beside the slots go along.
write_tracked : (contents : Contents) (uses : List SlotUse) (links : List ℕ) (place : ℕ) (new : Option Version) (uses_new : List SlotUse) (links_new : List ℕ) → IsTracked contents uses links → IsWithin contents.next_id contents.stamp new
    → uses_new ≡ set uses place (use_of contents.callers new) → AreLinks (length contents.slots) (set (ids_of contents.stamp contents.slots) place (shown contents.stamp new)) links_new → AreIds (2 ^ 64) (id_at (ids_of contents.stamp (set contents.slots place new)))
    → IsTracked (with_slots (set contents.slots place new) contents) uses_new links_new
write_tracked contents uses links place new uses_new links_new h within returned linked known = grind (arith, AllByRecursion-set, map-set, length-set)

-- The ids that a store's slots show are ids, ..
pub known_ids : (contents : Contents) (state : State) → IsBounded contents → StandsFor contents state → AreIds (2 ^ 64) (id_at (ids_of contents.stamp contents.slots))
known_ids contents state bounded stands = record {
  once = λ p q id at also.
      let same = length_permutation _ _ (IsPermutation-filter (λ line. eqb line.id id) _ _ stands.table.lines) in
      let few = one_line id state.table stands.table.ordered in
      one_place contents.stamp id p q contents.slots (omega arith) (shows_row contents.stamp id contents.slots p at) (shows_row contents.stamp id contents.slots q also);
  small = λ place id at. let below = has_below contents.next_id contents.stamp contents.stamp contents.slots id stands.within (has_row_at contents.stamp id contents.slots place (shows_row contents.stamp id contents.slots place at)) in let less = next_id-small contents bounded in omega arith;
}

-- Where an id's row stands at a place, that is what an index of the slots has for it.
pub place_known : (stamp id place : ℕ) (slots : List (Option Version)) (found : Option ℕ) → AreIds (2 ^ 64) (id_at (ids_of stamp slots)) → row_at stamp id slots place ≡ true → IsPlaceOf stamp id slots found → found ≡ Some place
place_known stamp id place slots found known at is = grind (arith, has_row_at, row_shown)

-- At the next stamp the slots show the same, before a slot is written.
pub ids_next : (next now : ℕ) (slots : List (Option Version)) → AllByRecursion (IsWithin next now) slots → ids_of (suc now) slots ≡ ids_of now slots
ids_next next now [] h = refl
ids_next next now (slot ∷ slots) h = grind (arith, ids_next next now slots h.1)

-- .. and they are known as a commit begins: nothing is ahead of it, and the lists beside the slots are as before.
pub tracked_next : (contents : Contents) (uses : List SlotUse) (links : List ℕ) (more : ℕ) → IsTracked contents uses links
    → IsTracked (record { slots = contents.slots; stamp = suc contents.stamp; next_id = contents.next_id + more; callers = contents.callers }) uses links
tracked_next contents uses links more h =
    let same = ids_next contents.next_id contents.stamp contents.slots h.within in
    let within = subst (AllByRecursion (IsWithin contents.next_id (suc contents.stamp))) (close_none (suc contents.stamp) contents.slots)
    (within-close [] contents.next_id contents.stamp contents.slots h.within) in
    grind (arith, within-more contents.next_id (contents.next_id + more) (suc contents.stamp) contents.slots)

-- The rows that it begins are new, once it has ended what it ends.
pub fresh_begun : (contents : Contents) (state : State) (call : Call) → is_formed call ≡ true → StandsFor contents state → missing (ended call) (visible contents.stamp contents.slots) ≡ None
    → AreFresh (contents.next_id + added call) (visible (suc contents.stamp) (map (close (ended call) (suc contents.stamp)) contents.slots)) (begun contents.next_id call)
fresh_begun contents state call formed stands none =
    begun_fresh contents.next_id contents.next_id (contents.next_id + added call) (visible (suc contents.stamp) (map (close (ended call) (suc contents.stamp)) contents.slots)) (changes_of call) (omega arith) (omega arith)
    (λ id there. (has_below contents.next_id contents.stamp contents.stamp contents.slots id stands.within (found_all (ended call) (visible contents.stamp contents.slots) none id there), ended_place contents.next_id contents.stamp id (ended call) contents.slots stands.within there))
    (λ id l. has_visible-new contents.next_id (suc contents.stamp) (suc contents.stamp) (map (close (ended call) (suc contents.stamp)) contents.slots) id (within-close (ended call) contents.next_id contents.stamp contents.slots stands.within) l)
    (formed_apart call formed)

-- Slots fit rows where there are as many, each is free, and none comes twice.
fills_where : (made : ℕ) (ns earlier : List ℕ) (before : List Entry) (slots now : List (Option Version)) (places : List ℕ) (begun : List Entry) → filled (made ∷ ns) made earlier before slots ≡ Some now → length places ≡ length begun
    → is_some (filled (made ∷ ns) made places begun now) ≡ are_free (made ∷ ns) slots earlier places
fills_where made ns earlier before slots now (place ∷ places) (fresh ∷ rest) e long =
    grind (
      arith,
      fills_where made ns (earlier ++ place ∷ []) (before ++ fresh ∷ []) slots (set now place (new_version made fresh)) places rest,
      filled_snoc (made ∷ ns) made earlier before slots now place fresh,
      taken,
      free_still,
    )
fills_where made ns earlier before slots now places begun e long = grind (arith)

pub fills_free : (made : ℕ) (ns : List ℕ) (slots : List (Option Version)) (places : List ℕ) (begun : List Entry) → length places ≡ length begun → are_free (made ∷ ns) slots [] places ≡ is_some (filled (made ∷ ns) made places begun slots)
fills_free made ns slots places begun long = sym (fills_where made ns [] [] slots slots places begun refl long)

pub fills_not : (ns : List ℕ) (made : ℕ) (places : List ℕ) (begun : List Entry) (slots : List (Option Version)) → (length places ≡ length begun → ⊥) → is_some (filled ns made places begun slots) ≡ false
fills_not ns made [] begun slots n = grind (arith)
fills_not ns made (place ∷ places) begun slots n = grind (arith, fills_not ns made places)

-- A free slot's slot_use is free, and it shows no row.
pub free_there : (contents : Contents) (uses : List SlotUse) (links : List ℕ) (place : ℕ) → IsTracked contents uses links → is_free (stamps contents) contents.slots place ≡ true → slice_get uses place ≡ Some Free
free_there contents uses links place h f = grind (arith, free_use contents.next_id contents.stamp contents.callers contents.slots place h.within)

pub free_inside : (contents : Contents) (uses : List SlotUse) (links : List ℕ) (place : ℕ) → IsTracked contents uses links → is_free (stamps contents) contents.slots place ≡ true → place < length contents.slots
free_inside contents uses links place h f = grind (arith, slice_get_within)

-- The ids that the slots show, with one more.
pub ids_born : (made place : ℕ) (fresh : Entry) (slots : List (Option Version)) → fresh.id < 2 ^ 64 → place < length slots → IsPlaceOf made fresh.id slots None → AreIds (2 ^ 64) (id_at (ids_of made slots))
    → AreIds (2 ^ 64) (id_at (ids_of made (set slots place (new_version made fresh))))
ids_born made place fresh slots low room absent known = subst (λ l. AreIds (2 ^ 64) (id_at l)) (sym (map-set (shown made) slots place (new_version made fresh) ∙ ap (set (ids_of made slots) place) shows)) (record {
  once = λ p q id at also. once p q id at also;
  small = λ p id at. ⊎_elim
      (λ (e : p ≡ place). let same : fresh.id ≡ id = same_Some fresh.id id (sym (here p e) ∙ at) in omega arith)
      (λ (n : p ≡ place → ⊥). known.small p id (sym (id_at-there (ids_of made slots) place (Some fresh.id) p n) ∙ at))
      (cases_eq p place);
})
  where
    shows : shown made (new_version made fresh) ≡ Some fresh.id
    shows = rw (le-leb made made (omega arith)) refl

    here : (p : ℕ) → p ≡ place → id_at (set (ids_of made slots) place (Some fresh.id)) p ≡ Some fresh.id
    here p e = ap (id_at (set (ids_of made slots) place (Some fresh.id))) e ∙ id_at-here (ids_of made slots) place (Some fresh.id) (let long = length-map slots (shown made) in omega arith)

    -- no other place shows its id
    alone : (p id : ℕ) → fresh.id ≡ id → id_at (ids_of made slots) p ≡ Some id → ⊥
    alone p id same at = true≢false (sym (has_row_at made fresh.id slots p (shows_row made fresh.id slots p (at ∙ ap Some (sym same)))) ∙ absent)

    once : (p q id : ℕ) → id_at (set (ids_of made slots) place (Some fresh.id)) p ≡ Some id → id_at (set (ids_of made slots) place (Some fresh.id)) q ≡ Some id → p ≡ q
    once p q id at also = grind (arith, alone, here, id_at-there)

-- Rows that are still to begin stay new.
pub fresh_left : (limit made place : ℕ) (ns : List ℕ) (first : Entry) (slots : List (Option Version)) (rest : List Entry) → is_free (made ∷ ns) slots place ≡ true → among (map (λ (e : Entry). e.id) rest) first.id ≡ false
    → AreFresh limit (visible made slots) rest → AreFresh limit (visible made (set slots place (new_version made first))) rest
fresh_left limit made place ns first slots [] free apart h = tt
fresh_left limit made place ns first slots (fresh ∷ rest) free apart h =
    let parts = or_parts (eqb fresh.id first.id) (among (map (λ (e : Entry). e.id) rest) first.id) apart in
    (h.0, other_place made fresh.id first ns slots place None free (eqb_comm first.id fresh.id ∙ parts.0) h.1, h.2, fresh_left limit made place ns first slots rest free parts.1 h.3)

-- The rows that ended so far, ..
abbrev pub EndedUpTo : Contents → Contents → List ℕ → Type 0
EndedUpTo start now ids = now ≡ with_slots (map (close ids start.stamp) start.slots) start

pub close_more : (xs ys : List ℕ) (made : ℕ) (slots : List (Option Version)) → map (close ys made) (map (close xs made) slots) ≡ map (close (xs ++ ys) made) slots
close_more xs ys made [] = refl
close_more xs ys made (slot ∷ slots) = grind (arith, close_more xs ys made slots, among_append)

pub ended_none : (start : Contents) → EndedUpTo start start []
ended_none start = ap (λ l. with_slots l start) (sym (close_none start.stamp start.slots))

pub ended_more : (start now new : Contents) (done ids : List ℕ) → EndedUpTo start now done → new ≡ with_slots (map (close ids now.stamp) now.slots) now → EndedUpTo start new (done ++ ids)
ended_more start now new done ids h is = is ∙ ap (λ (s : Contents). with_slots (map (close ids s.stamp) s.slots) s) h ∙ ap (λ l. with_slots l start) (close_more done ids start.stamp start.slots)

-- .. and those that began: what is left of the places and of the rows.
pub record BegunUpTo (start now : Contents) (places : List ℕ) (rest : List Entry) (all : Option (List (Option Version))) : Type 0 where
  pub contents : now ≡ with_slots now.slots start
  pub fills : filled (stamps start) start.stamp places rest now.slots ≡ all
  pub some : is_some all ≡ true
  pub fresh : AreFresh start.next_id (visible start.stamp now.slots) rest

-- What is known as the next row begins, ..
pub record BeginsNext (start now : Contents) (places : List ℕ) (used : ℕ) (first : Entry) (rest : List Entry) (all : Option (List (Option Version))) : Type 0 where
  pub inside : used < length places
  pub free : is_free (stamps now) now.slots (get_or places used 0) ≡ true
  pub absent : has (visible now.stamp now.slots) first.id ≡ false
  pub low : first.id < now.next_id
  pub next : BegunUpTo start (with_slots (set now.slots (get_or places used 0) (new_version start.stamp first)) start) (drop (used + 1) places) rest all

pub begins_next : (start now : Contents) (places : List ℕ) (used : ℕ) (first : Entry) (rest : List Entry) (all : Option (List (Option Version))) → BegunUpTo start now (drop used places) (first ∷ rest) all
    → BeginsNext start now places used first rest all
begins_next start now places used first rest all h =
    grind (arith, drop_all, drop_item places used, slice_get_within, cases_lt, fresh_left start.next_id start.stamp (get_or places used 0) (begins start.callers) first now.slots rest)

-- .. and once it has begun, ..
pub begun_one : (start now new : Contents) (places : List ℕ) (used : ℕ) (first : Entry) (rest : List Entry) (all : Option (List (Option Version))) → BegunUpTo start now (drop used places) (first ∷ rest) all
    → new ≡ with_slots (set now.slots (get_or places used 0) (new_version now.stamp first)) now → BegunUpTo start new (drop (used + 1) places) rest all
begun_one start now new places used first rest all h is =
    let same = ap (λ (s : Contents). with_slots (set now.slots (get_or places used 0) (new_version s.stamp first)) s) h.contents in
    subst (λ s. BegunUpTo start s (drop (used + 1) places) rest all) (sym (is ∙ same)) (begins_next start now places used first rest all h).next

-- .. and all have.
pub begun_all : (start now : Contents) (places : List ℕ) (all : Option (List (Option Version))) → BegunUpTo start now places [] all → all ≡ Some now.slots
begun_all start now [] all h = sym h.fills
begun_all start now (place ∷ places) all h = absurd (true≢false (sym h.some ∙ ap is_some (sym h.fills)))

-- One row ends, ..
pub end_none : (contents : Contents) (uses : List SlotUse) (links : List ℕ) (id : ℕ) → IsTracked contents uses links → IsPlaceOf contents.stamp id contents.slots None → contents ≡ with_slots (map (close (id ∷ []) contents.stamp) contents.slots) contents
end_none contents uses links id h absent = ap (λ l. with_slots l contents) (sym (none_closed contents.next_id contents.stamp id contents.slots h.within absent))

module _ (contents : Contents) (uses : List SlotUse) (links : List ℕ) (id place : ℕ) (version : Version) (h : IsTracked contents uses links) (row : row_at contents.stamp id contents.slots place ≡ true) (at : slice_get contents.slots place ≡ Some (Some version)) where
  abbrev last : Option Version
  last = Some (record version { death = Some contents.stamp })

  within_here : IsWithin contents.next_id contents.stamp (Some version)
  within_here = holds_there (IsWithin contents.next_id contents.stamp) contents.slots place (Some version) at h.within

  row_here : is_row contents.stamp id (Some version) ≡ true
  row_here = ap (λ o. elim o as (λ x. Bool) [ None ↦ false | Some s ↦ is_row contents.stamp id s ]) (sym at) ∙ row

  closes : ◌≡◌ {A = Option Version} (Some (record version { death = close_at contents.stamp true version.death })) last
  closes = grind (arith, within_here, row_here)

  gone : shown contents.stamp last ≡ None
  gone = grind (arith)

  pub end_alive : slice_get uses place ≡ Some Live
  end_alive = ap (λ z. slice_get z place) h.listed ∙ row_live contents.next_id contents.stamp id contents.slots h.within contents.callers place row

  pub end_slots : set contents.slots place last ≡ map (close (id ∷ []) contents.stamp) contents.slots
  end_slots = ap (set contents.slots place) (sym closes) ∙ sym (one_closed contents.next_id contents.stamp id contents.slots h.within place version h.ids row at)

  pub end_tracked : (slot_use : SlotUse) (uses_new : List SlotUse) (links_new : List ℕ) → slot_use ≡ use_of contents.callers last → uses_new ≡ set uses place slot_use
      → AreLinks (length contents.slots) (set (ids_of contents.stamp contents.slots) place None) links_new
      → IsTracked (with_slots (set contents.slots place last) contents) uses_new links_new
  end_tracked slot_use uses_new links_new is returned linked = grind (arith, write_tracked contents uses links place last uses_new links_new h, within_here, gone, end_slots, ids_closed (id ∷ []) contents.stamp contents.slots h.ids)

  visible_here : (eqb version.id id ≡ true) × (is_visible contents.stamp version ≡ true)
  visible_here = and_parts (eqb version.id id) (is_visible contents.stamp version) row_here

  -- .. or is replaced where it stands, ..
  pub replace_tracked : (entry : Entry) (new : Option Version) → entry.id ≡ id → new ≡ new_version contents.stamp entry → IsTracked (with_slots (set contents.slots place new) contents) uses links
  replace_tracked entry new same is =
      let named : version.id ≡ id = eqb-true version.id id visible_here.0 in
      let low : entry.id < contents.next_id = omega (arith, within_here.0, named, same) in
      let here = get_or_from_slice_get contents.slots place (Some version) new at in
      let slot_use : use_of contents.callers new ≡ use_of contents.callers (get_or contents.slots place new) =
      ap (use_of contents.callers) is ∙ sym (ap (use_of contents.callers) here ∙ row_alive contents.next_id contents.stamp id contents.callers version within_here row_here) in
      let fresh : shown contents.stamp (new_version contents.stamp entry) ≡ Some entry.id = rw (le-leb contents.stamp contents.stamp (omega arith)) refl in
      let before : shown contents.stamp (Some version) ≡ Some version.id = rw visible_here.1 refl in
      let id_here : shown contents.stamp new ≡ shown contents.stamp (get_or contents.slots place new) =
      ap (shown contents.stamp) is ∙ (fresh ∙ (ap Some (same ∙ sym named) ∙ sym (ap (shown contents.stamp) here ∙ before))) in
      let ids_same = map-set_same (shown contents.stamp) contents.slots place new new id_here in
      record {
        seats = h.seats;
        within = subst (λ r. AllByRecursion (IsWithin contents.next_id contents.stamp) (set contents.slots place r)) (sym is) (AllByRecursion-set (IsWithin contents.next_id contents.stamp) contents.slots place (new_version contents.stamp entry) (low, omega arith, tt) h.within);
        listed = h.listed ∙ sym (map-set_same (use_of contents.callers) contents.slots place new new slot_use);
        linked = rw (length-set contents.slots place new, ids_same) h.linked;
        ids = subst (λ ids. AreIds (2 ^ 64) (id_at ids)) (sym ids_same) h.ids;
      }

-- .. or begins.
pub begin_tracked : (contents : Contents) (uses : List SlotUse) (links : List ℕ) (entry : Entry) (place : ℕ) (row : Option Version) (uses_new : List SlotUse) (links_new : List ℕ) → IsTracked contents uses links → is_free (stamps contents) contents.slots place ≡ true
    → has (visible contents.stamp contents.slots) entry.id ≡ false → entry.id < contents.next_id → entry.id < 2 ^ 64 → row ≡ new_version contents.stamp entry → uses_new ≡ set uses place Live
    → AreLinks (length contents.slots) (set (ids_of contents.stamp contents.slots) place (Some entry.id)) links_new
    → IsTracked (with_slots (set contents.slots place row) contents) uses_new links_new
begin_tracked contents uses links entry place row uses_new links_new h free absent low small is returned linked =
    grind (arith, write_tracked contents uses links place row uses_new links_new h, ids_born contents.stamp place entry contents.slots small (free_inside contents uses links place h free) absent h.ids)

-- Whether an op's slots fit.
pub fits_begun : (contents : Contents) (op : Op) → is_change op.call ≡ true → succeeds op.outcome ≡ true → length op.slots ≡ length (begun contents.next_id op.call)
    → are_free (suc contents.stamp ∷ begins contents.callers) (map (close (ended op.call) (suc contents.stamp)) contents.slots) [] op.slots ≡ is_some (slots_after contents op)
fits_begun contents op c s long = grind (arith, fills_free)

pub fits_other : (contents : Contents) (op : Op) → is_change op.call ≡ true → succeeds op.outcome ≡ true → (length op.slots ≡ length (begun contents.next_id op.call) → ⊥) → is_some (slots_after contents op) ≡ false
fits_other contents op c s n = grind (arith, fills_not)

pub fits_quiet : (contents : Contents) (op : Op) (empty : Bool) → (is_change op.call && succeeds op.outcome) ≡ false → empty ≡ nat_eq (length op.slots) 0 → empty ≡ is_some (slots_after contents op)
fits_quiet contents op empty quiet is = grind (arith, fills_nothing)

-- A call that is no commit, or isn't done, leaves the slots.
pub slots_still : (contents : Contents) (op : Op) → (is_change op.call && succeeds op.outcome) ≡ false → is_some (slots_after contents op) ≡ true → slots_after contents op ≡ Some contents.slots
slots_still contents op quiet fits = grind (arith, fills_nothing)

-- The contents as a commit begins, that adds so many rows.
abbrev pub begun_commit : Contents → ℕ → Contents
begun_commit contents more = record { slots = contents.slots; stamp = suc contents.stamp; next_id = contents.next_id + more; callers = contents.callers }

pub none_missing : (contents : Contents) (call : Call) (outcome : Outcome) → outcome ≡ outcome_at contents call → succeeds outcome ≡ true → is_change call ≡ true → missing (ended call) (visible contents.stamp contents.slots) ≡ None
none_missing contents call outcome returned ok c = succeeds-missing (length contents.slots) (begins_row call) (missing (ended call) (visible contents.stamp contents.slots)) (used (grown call contents)) (success_outcome contents.next_id call) (rw c at (ap succeeds (sym returned) ∙ ok))

pub commit_fresh : (now start closed : Contents) (state : State) (op : Op) (first : ℕ) → start ≡ begun_commit now (added op.call) → first ≡ now.next_id → closed ≡ with_slots (map (close (ended op.call) start.stamp) start.slots) start
    → StandsFor now state → is_next now op ≡ true → is_change op.call ≡ true → succeeds op.outcome ≡ true → AreFresh closed.next_id (visible closed.stamp closed.slots) (begun first op.call)
commit_fresh now start closed state op first is next ends stands legal c s =
    grind (arith, fresh_begun now state op.call (IsAllowed-from now op legal).formed stands (none_missing now op.call op.outcome (IsAllowed-from now op legal).outcome s c))
