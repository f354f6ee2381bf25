-- The slots of a change that are known by a look at them alone.
use Rattle.pref_core.proofs.Common.{◌≡◌, ℕ, suc, ◌+◌, ◌≤◌, Bool, true, false, ◌&&◌, cond, eqb, List, [], ◌∷◌, length, take, drop, Option, Some, None, is_some, IfSome, slice_get, ◌⊎◌, inl}
use Rattle.pref_core.proofs.Common.{inr, ⊎_elim, refl, sym, ap, ◌∙◌, subst, arith, eqb-true, true≢false, append-nil, Call, Op, Change, Add, Set, Remove, Version, ended_by}
use Rattle.pref_core.proofs.Common.{begun_by, begins_any, row_at, IsKept, FitAtOnce, FitsNext, are_free, frees_at, uses_of, is_free, is_next, slots_after, used, free_at, Contents, begins}
use Rattle.pref_core.proofs.Common.{visible, begun, changes_of, ended, is_change, is_formed, missing, Line, among, false_from_ne_true, drop_all}
use Rattle.std.specs.Option.{option_eq}
use Rattle.pref_core.proofs.ChangesLaws.{among_append, among_inside, drop_at, ended_so_far, formed_apart, take_at, named_at, one_begins}
use Rattle.pref_core.proofs.ChosenSlots.{ChosenUpTo, all_chosen, closed_slots, outcome_fits, stamps_next, plan_is_not_full}
use Rattle.pref_core.proofs.FilledLaws.{fills_free}
use Rattle.pref_core.proofs.FreedLaws.{free_closed, frees_closed, named_once, row_taken}
use Rattle.pref_core.proofs.SlotUseLaws.{has_row_at}
use Rattle.pref_core.proofs.StandsForLaws.{some_is}

-- Slots for all rows that a change begins, which misses none: it succeeds.
chosen_at_once : (contents : Contents) (call : Call) (slots : List ℕ) → is_change call ≡ true → is_formed call ≡ true → missing (ended call) (visible contents.stamp contents.slots) ≡ None → ChosenUpTo contents call [] slots → FitAtOnce contents call slots
chosen_at_once contents call slots c formed none h = grind (arith, all_chosen, stamps_next, closed_slots, append-nil, outcome_fits, plan_is_not_full)

-- A place that was taken for one of the first changes: it was free, or a row stood there that one of them ends.
pub record StoodThere (contents : Contents) (ids : List ℕ) (place : ℕ) : Type 0 where
  pub id : ℕ
  pub named : among ids id ≡ true
  pub row : row_at contents.stamp id contents.slots place ≡ true

abbrev pub Was : Contents → List ℕ → ℕ → Type 0
Was contents ids place = (free_at (uses_of contents) place ≡ true) ⊎ StoodThere contents ids place

-- The first slots fit the first changes.
pub record FitsUpTo (contents : Contents) (call : Call) (slots : List ℕ) (at used : ℕ) : Type 0 where
  pub there : missing (ended_by (drop at (changes_of call))) (visible contents.stamp contents.slots) ≡ missing (ended call) (visible contents.stamp contents.slots)
  pub free : are_free (stamps_next contents) (closed_slots contents (ended call)) (take used slots) (drop used slots) ≡ are_free (stamps_next contents) (closed_slots contents (ended call)) [] slots
  pub taken : (place : ℕ) → among (take used slots) place ≡ true → Was contents (ended_by (take at (changes_of call))) place
  pub long : (next_id : ℕ) → used + length (begun_by next_id (drop at (changes_of call))) ≡ length (begun next_id call)

module _ (contents : Contents) (call : Call) (slots : List ℕ) (kept : IsKept contents) (at used : ℕ) (change : Change) (here : slice_get (changes_of call) at ≡ Some change) (h : FitsUpTo contents call slots at used) where
  abbrev table : List Line
  table = visible contents.stamp contents.slots

  abbrev changes : List Change
  changes = changes_of call

  abbrev closed : List (Option Version)
  closed = closed_slots contents (ended call)

  -- its row is there
  there_one : (id place : ℕ) → ended_by (change ∷ drop (at + 1) changes) ≡ id ∷ ended_by (drop (at + 1) changes) → row_at contents.stamp id contents.slots place ≡ true → missing (ended_by (drop (at + 1) changes)) table ≡ missing (ended call) table
  there_one id place named row = grind (arith, has_row_at, drop_at)

  weaker : (place : ℕ) → Was contents (ended_by (take at changes)) place → Was contents (ended_by (take (at + 1) changes)) place
  weaker place was = grind (arith, ended_so_far changes at change here, among_append)

  -- a slot that fits
  slot_taken : (place : ℕ) → slice_get slots used ≡ Some place → is_free (stamps_next contents) closed place ≡ true → among (take used slots) place ≡ false
      → are_free (stamps_next contents) closed (take (used + 1) slots) (drop (used + 1) slots) ≡ are_free (stamps_next contents) closed [] slots
  slot_taken place is free new = grind (arith, take_at slots used place is, drop_at slots used place is)

  all_taken : (last : ℕ) → slice_get slots used ≡ Some last → Was contents (ended_by (take (at + 1) changes)) last → (place : ℕ) → among (take (used + 1) slots) place ≡ true → Was contents (ended_by (take (at + 1) changes)) place
  all_taken last is was place a = ⊎_elim
      (λ (e : among (take used slots) place ≡ true). weaker place (h.taken place e))
      (λ (e : last ≡ place). subst (Was contents (ended_by (take (at + 1) changes))) e was)
      (grind (arith, take_at slots used last is, among_append))

  length_one : (begins : Bool) → begins_any (change ∷ []) ≡ begins → (next_id : ℕ) → used + cond begins (suc (length (begun_by next_id (drop (at + 1) changes)))) (length (begun_by next_id (drop (at + 1) changes))) ≡ length (begun next_id call)
  length_one begins e next_id = grind (arith, one_begins next_id change (drop (at + 1) changes) begins e, drop_at changes at change here)

-- A change that fits in the next slot: an added row may have a free one, a row that is set the one where it stands, and one that is removed needs none.
pub fits_change : (contents : Contents) (call : Call) (slots : List ℕ) (at used after : ℕ) (change : Change) → IsKept contents → is_formed call ≡ true → slice_get (changes_of call) at ≡ Some change → FitsNext contents slots used change after
    → FitsUpTo contents call slots at used → FitsUpTo contents call slots (at + 1) after
fits_change contents call slots at used after (Add row) kept formed here n h = subst (FitsUpTo contents call slots (at + 1)) (sym n.4) (record {
  there = sym (ap (λ l. missing (ended_by l) (visible contents.stamp contents.slots)) (drop_at (changes_of call) at (Add row) here)) ∙ h.there;
  free = slot_taken contents call slots kept at used (Add row) here h n.0 n.1 (free_closed contents kept.state kept.bounded kept.stands (ended call) n.0 n.2) n.3;
  taken = all_taken contents call slots kept at used (Add row) here h n.0 n.1 (inl n.2);
  long = λ next_id. let one = length_one contents call slots kept at used (Add row) here h true refl next_id in omega arith;
})
fits_change contents call slots at used after (Set id row) kept formed here n h = subst (FitsUpTo contents call slots (at + 1)) (sym n.4) (record {
  there = there_one contents call slots kept at used (Set id row) here h id n.0 refl n.2;
  free = slot_taken contents call slots kept at used (Set id row) here h n.0 n.1
      (frees_closed contents kept.state kept.bounded kept.stands (ended call) n.0 (ap (λ m. frees_at (begins contents.callers) (ended call) m contents.slots n.0) next ∙ n.3 (ended call) (named_at (changes_of call) at (Set id row) id here refl)))
      (false_from_ne_true (among (take used slots) n.0) not_taken);
  taken = all_taken contents call slots kept at used (Set id row) here h n.0 n.1 (inr (record {
    id = id;
    named = ap (λ l. among l id) (ended_so_far (changes_of call) at (Set id row) here) ∙ among_inside (ended_by (take at (changes_of call))) [] id;
    row = n.2;
  }));
  long = λ next_id. let one = length_one contents call slots kept at used (Set id row) here h true refl next_id in omega arith;
})
  where
    next : suc contents.stamp ≡ contents.stamp + 1
    next = omega arith

    before : among (ended_by (take at (changes_of call))) id ≡ false
    before = named_once (changes_of call) at (Set id row) id here refl (formed_apart call formed)

    not_taken : among (take used slots) n.0 ≡ true → ⊥
    not_taken e = grind (arith, row_taken, before)
fits_change contents call slots at used after (Remove id) kept formed here n h = subst (FitsUpTo contents call slots (at + 1)) (sym n.2) (record {
  there = there_one contents call slots kept at used (Remove id) here h id n.0 refl n.1;
  free = h.free;
  taken = λ other a. weaker contents call slots kept at used (Remove id) here h other (h.taken other a);
  long = λ next_id. length_one contents call slots kept at used (Remove id) here h false refl next_id;
})

pub fits_all : (contents : Contents) (call : Call) (slots : List ℕ) (at used : ℕ) → is_change call ≡ true → is_formed call ≡ true → length (changes_of call) ≤ at → length slots ≡ used → FitsUpTo contents call slots at used → FitAtOnce contents call slots
fits_all contents call slots at used c formed done long h =
    let none : drop at (changes_of call) ≡ [] = drop_all at (changes_of call) done in
    let there : missing (ended call) (visible contents.stamp contents.slots) ≡ None = sym h.there ∙ ap (λ l. missing (ended_by l) (visible contents.stamp contents.slots)) none in
    let free : are_free (stamps_next contents) (closed_slots contents (ended call)) [] slots ≡ true = sym h.free ∙ ap (are_free (stamps_next contents) (closed_slots contents (ended call)) (take used slots)) (drop_all used slots (omega arith)) in
    let all = ap (λ l. used + length (begun_by contents.next_id l)) (sym none) ∙ h.long contents.next_id in
    let many : length slots ≡ length (begun contents.next_id call) = omega (arith, all, long) in
    let fits = some_is _ (sym (fills_free (suc contents.stamp) (begins contents.callers) (closed_slots contents (ended call)) slots (begun contents.next_id call) many) ∙ free) in
    chosen_at_once contents call slots c formed there (record { done = begun contents.next_id call; all = sym (append-nil _); now = fits.0; fills = fits.1 })

-- None is used before the first change, ..
pub fits_none : (contents : Contents) (call : Call) (slots : List ℕ) → FitsUpTo contents call slots 0 0
fits_none contents call slots = record { there = refl; free = refl; taken = λ place a. absurd (true≢false (sym a)); long = λ next_id. omega arith }

-- .. so a lone one fits where the slot that it takes is the only one.
pub fits_lone : (contents : Contents) (call : Call) (slots : List ℕ) (change : Change) (used : Option ℕ) → IsKept contents → is_change call ≡ true → is_formed call ≡ true → changes_of call ≡ change ∷ []
    → IfSome used (λ after. FitsNext contents slots 0 change after) → option_eq eqb used (Some (length slots)) ≡ true → FitAtOnce contents call slots
fits_lone contents call slots change None kept c formed one n all = absurd (true≢false (sym all))
fits_lone contents call slots change (Some used) kept c formed one n all =
    let long = ap length one in
    fits_all contents call slots 1 used c formed (omega arith) (sym (eqb-true used (length slots) all)) (fits_change contents call slots 0 0 used change kept formed (ap (λ l. slice_get l 0) one) n (fits_none contents call slots))

-- Its slots fit an op of it that is next.
pub next_fits : (contents : Contents) (op : Op) → FitAtOnce contents op.call op.slots → is_next contents op ≡ (is_next contents op && is_some (slots_after contents op))
next_fits contents op h = grind (arith)
