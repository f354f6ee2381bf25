-- What becomes of the uses where an open query begins or ends: the places that it kept get their next uses, one by one.
use Rattle.pref_core.proofs.Common.{◌≡◌, ℕ, zero, suc, ◌+◌, ◌-◌, ◌<◌, ◌≤◌, inl, true, false, cond, List, [], ◌∷◌, ◌++◌, map, length, set, replicate, Option, Some, None, is_some, slice_get, refl, sym, ap, ap₂, ◌∙◌, subst, arith}
use Rattle.pref_core.proofs.Common.{AllByRecursion, AllZip, option_to_list, length-set, slice_get_within, Version, Caller, SlotUse, Free, Ended, Live, Call, Op, Row, refusal_of, Contents, is_needed, IsWithin, opening_slots, begin_after}
use Rattle.pref_core.proofs.Common.{callers_after, refusal_at, is_next, slots_after, stepped, applied, is_end, kept_from, use_of, number_of, is_kept_by, MayBecome, IsKept, uses_of, get_or, ⊎_elim, count_by, count_by-le-length, eq-eqb}
use Rattle.pref_core.proofs.OutcomeLaws.{stepped_stands}
use Rattle.pref_core.proofs.BoundsLaws.{IsBounded-stepped}
use Rattle.pref_core.proofs.SlotSetsLaws.{count_set}
use Rattle.std.proofs.lemmas.List.Elements.{length_all_zip}

-- A caller whose begin sees of ended versions what it saw leaves the uses.
kept_still : (keeper : ℕ) (callers : List Caller) (k : ℕ) (found new : Caller) (slot : Option Version) → slice_get callers k ≡ Some found → is_needed (option_to_list new.at_begin) slot ≡ is_needed (option_to_list found.at_begin) slot
    → kept_from keeper (set callers k new) slot ≡ kept_from keeper callers slot
kept_still keeper (first ∷ callers) (suc k) found new slot at e = ap (λ z. cond (is_needed (option_to_list first.at_begin) slot) (Ended keeper) z) (kept_still (suc keeper) callers k found new slot at e)
kept_still keeper callers k found new slot at e = grind (arith)

abbrev SeesStill : ℕ → ℕ → Caller → Caller → Type 0
SeesStill next now found new = (version : Version) → IsWithin next now (Some version) → is_some version.death ≡ true → is_needed (option_to_list new.at_begin) (Some version) ≡ is_needed (option_to_list found.at_begin) (Some version)

use_still : (next now : ℕ) (callers : List Caller) (k : ℕ) (found new : Caller) (slot : Option Version) → slice_get callers k ≡ Some found → SeesStill next now found new → IsWithin next now slot → use_of (set callers k new) slot ≡ use_of callers slot
use_still next now callers k found new slot at still h = grind (arith, kept_still)

uses_still : (next now : ℕ) (callers : List Caller) (k : ℕ) (found new : Caller) (slots : List (Option Version)) → slice_get callers k ≡ Some found → SeesStill next now found new → AllByRecursion (IsWithin next now) slots
    → map (use_of (set callers k new)) slots ≡ map (use_of callers) slots
uses_still next now callers k found new [] at still h = refl
uses_still next now callers k found new (slot ∷ slots) at still h = ap₂ ◌∷◌ (use_still next now callers k found new slot at still h.0) (uses_still next now callers k found new slots at still h.1)

-- Every call that doesn't end a query leaves the uses.
pub uses_kept : (contents : Contents) (client : ℕ) (call : Call) → refusal_at contents client call ≡ None → is_end call ≡ false → AllByRecursion (IsWithin contents.next_id contents.stamp) contents.slots
    → map (use_of (callers_after contents.stamp contents.callers client call)) contents.slots ≡ uses_of contents
uses_kept contents zero call accepted stays within = refl
uses_kept contents (suc k) call accepted stays within = there (slice_get contents.callers k) refl accepted
  where
    there : (o : Option Caller) → slice_get contents.callers k ≡ o → refusal_of (elim o as (λ x. Option ℕ) [ None ↦ None | Some caller ↦ Some caller.calls ]) (is_some (elim o as (λ x. Option ℕ) [ None ↦ None | Some caller ↦ caller.at_begin ])) call ≡ None
        → map (use_of (elim o as (λ x. List Caller) [ None ↦ contents.callers | Some found ↦ set contents.callers k (record { calls = suc found.calls; at_begin = begin_after contents.stamp call found.at_begin }) ])) contents.slots ≡ uses_of contents
    there None at r = refl
    there (Some found) at r =
        let new : Caller = record { calls = suc found.calls; at_begin = begin_after contents.stamp call found.at_begin } in
        uses_still contents.next_id contents.stamp contents.callers k found new contents.slots at (grind (arith)) within

-- A client whose call gets a number is one of the callers.
pub seated : (contents : Contents) (client : ℕ) (call : Call) → refusal_at contents client call ≡ None → (1 ≤ client) × (client ≤ length contents.callers)
seated contents client call accepted = grind (arith, slice_get_within)

pub callers_long : (now : ℕ) (callers : List Caller) (client : ℕ) (call : Call) → length (callers_after now callers client call) ≡ length callers
callers_long now callers client call = grind (arith, length-set)

-- The callers from one on keep nothing for those before, ..
kept_past : (start keeper : ℕ) (callers : List Caller) (slot : Option Version) → keeper < start → is_kept_by keeper (kept_from start callers slot) ≡ false
kept_past start keeper [] slot l = refl
kept_past start keeper (caller ∷ callers) slot l = grind (arith, kept_past (suc start) keeper callers slot (omega arith))

-- .. and no more callers than there are keep anything.
kept_few : (start : ℕ) (callers : List Caller) (slot : Option Version) → number_of (kept_from start callers slot) < start + length callers + 2
kept_few start [] slot = omega arith
kept_few start (caller ∷ callers) slot = grind (arith, kept_few (suc start) callers slot)

pub use_few : (callers : List Caller) (slot : Option Version) → length callers ≤ 8 → number_of (use_of callers slot) < 10
use_few callers slot few = grind (arith, kept_few)

-- Where a caller's query ends, what it kept goes elsewhere.
use_left : (start k keeper : ℕ) (callers : List Caller) (new : Caller) (slot : Option Version) → keeper ≡ start + k → k < length callers → new.at_begin ≡ None → MayBecome keeper (kept_from start callers slot) (kept_from start (set callers k new) slot)
use_left start k keeper [] new slot is l e = absurd (omega arith)
use_left start zero keeper (first ∷ callers) new slot is l e = grind (arith, kept_past)
use_left start (suc k) keeper (first ∷ callers) new slot is l e = grind (arith, use_left (suc start) k keeper callers new slot (omega arith) (omega arith) e)

uses_left : (keeper : ℕ) (callers : List Caller) (new : Caller) (slots : List (Option Version)) → keeper < length callers → new.at_begin ≡ None → AllZip (MayBecome keeper) (map (use_of callers) slots) (map (use_of (set callers keeper new)) slots)
uses_left keeper callers new [] l e = tt
uses_left keeper callers new (slot ∷ slots) l e = grind (arith, uses_left keeper callers new slots l e, use_left 0 keeper keeper callers new)

pub uses_end : (contents : Contents) (client : ℕ) (call : Call) → refusal_at contents client call ≡ None → is_end call ≡ true
    → AllZip (MayBecome (client - 1)) (uses_of contents) (map (use_of (callers_after contents.stamp contents.callers client call)) contents.slots)
uses_end contents zero call accepted e = absurd (cc)
uses_end contents (suc k) call accepted e = subst (λ n. AllZip (MayBecome n) (uses_of contents) (map (use_of (callers_after contents.stamp contents.callers (suc k) call)) contents.slots)) (let same : k ≡ suc k - 1 = omega arith in same)
    (there (slice_get contents.callers k) refl accepted)
  where
    there : (o : Option Caller) → slice_get contents.callers k ≡ o → refusal_of (elim o as (λ x. Option ℕ) [ None ↦ None | Some caller ↦ Some caller.calls ]) (is_some (elim o as (λ x. Option ℕ) [ None ↦ None | Some caller ↦ caller.at_begin ])) call ≡ None
        → AllZip (MayBecome k) (uses_of contents) (map (use_of (elim o as (λ x. List Caller) [ None ↦ contents.callers | Some found ↦ set contents.callers k (record { calls = suc found.calls; at_begin = begin_after contents.stamp call found.at_begin }) ])) contents.slots)
    there None at r = absurd (cc)
    there (Some found) at r = uses_left k contents.callers (record { calls = suc found.calls; at_begin = begin_after contents.stamp call found.at_begin }) contents.slots (slice_get_within contents.callers k found at) (grind (arith))

-- What a legal op leaves is what applying it makes, ..
pub stepped_is : (contents : Contents) (op : Op) (slots : List (Option Version)) (new : Contents) → is_next contents op ≡ true → slots_after contents op ≡ Some slots → new ≡ stepped contents op slots → new ≡ applied contents op
stepped_is contents op slots new next fits is = rw (next, fits) is

-- .. and is kept.
pub kept_stepped : (contents : Contents) (op : Op) (slots : List (Option Version)) (new : Contents) → IsKept contents → is_next contents op ≡ true → slots_after contents op ≡ Some slots → new ≡ stepped contents op slots → IsKept new
kept_stepped contents op slots new h next fits is = grind (arith, IsBounded-stepped contents op slots h.bounded next fits, stepped_stands contents h.state op slots h.stands next fits)

-- The uses as a store is opened.
uses_opening : (callers : List Caller) (before : ℕ) (rows : List Row) (empty : ℕ) → map (use_of callers) (opening_slots before rows ++ replicate empty None) ≡ replicate (length rows) Live ++ replicate empty Free
uses_opening callers before [] zero = refl
uses_opening callers before [] (suc empty) = ap (λ l. Free ∷ l) (uses_opening callers before [] empty)
uses_opening callers before (row ∷ rows) empty = ap (λ l. Live ∷ l) (uses_opening callers (suc before) rows empty)

pub uses_opened : (callers : List Caller) (capacity : ℕ) (rows : List Row) (slots : List (Option Version)) (uses : List SlotUse) → slots ≡ opening_slots 0 rows ++ replicate (capacity - length rows) None → uses ≡ replicate (length rows) Live ++ replicate (capacity - length rows) Free → uses ≡ map (use_of callers) slots
uses_opened callers capacity rows slots uses is returned = returned ∙ sym (uses_opening callers 0 rows (capacity - length rows)) ∙ ap (map (use_of callers)) (sym is)

-- A place gets the slot_use that is after it.
use_given : (keeper place : ℕ) (uses after : List SlotUse) → AllZip (MayBecome keeper) uses after → place < length uses
    → AllZip (MayBecome keeper) (set uses place (get_or after place Live)) after × (is_kept_by keeper (get_or after place Live) ≡ false)
use_given keeper place [] after h l = absurd (omega arith)
use_given keeper place (z ∷ uses) [] h l = absurd h
use_given keeper zero (z ∷ uses) (w ∷ after) h l = (((h.0.0, inl refl), h.1), h.0.0)
use_given keeper (suc place) (z ∷ uses) (w ∷ after) h l = let more = use_given keeper place uses after h.1 (omega arith) in ((h.0, more.0), more.1)

-- No more places are still kept than there are turns left.
pub record IsSweeping (keeper turn : ℕ) (uses after : List SlotUse) : Type 0 where
  pub may : AllZip (MayBecome keeper) uses after
  pub left : count_by (is_kept_by keeper) uses + turn ≤ length after

pub sweep_begins : (keeper : ℕ) (uses after : List SlotUse) → AllZip (MayBecome keeper) uses after → IsSweeping keeper 0 uses after
sweep_begins keeper uses after h = grind (arith, count_by-le-length, length_all_zip)

pub sweep_goes : (keeper turn place : ℕ) (uses after : List SlotUse) → IsSweeping keeper turn uses after → slice_get uses place ≡ Some (Ended keeper) → IsSweeping keeper (turn + 1) (set uses place (get_or after place Live)) after
sweep_goes keeper turn place uses after h at = grind (arith, use_given keeper place uses after h.may, slice_get_within, count_set (is_kept_by keeper), eq-eqb)

-- Where no place is kept all uses are as they are to be, ..
pub swept : (keeper : ℕ) (uses after : List SlotUse) → AllZip (MayBecome keeper) uses after → ((place : ℕ) → slice_get uses place ≡ Some (Ended keeper) → ⊥) → uses ≡ after
swept keeper (z ∷ uses) (w ∷ after) h none = ap₂ ◌∷◌ (⊎_elim (λ (same : z ≡ w). same) (λ (kept : z ≡ Ended keeper). absurd (none zero (ap Some kept))) h.0.1) (swept keeper uses after h.1 (λ place at. none (suc place) at))
swept keeper uses after h none = grind (arith)

-- .. and so they are where no turn is left.
pub swept_all : (keeper turn : ℕ) (uses after : List SlotUse) → IsSweeping keeper turn uses after → length after ≤ turn → uses ≡ after
swept_all keeper turn uses after h past = swept keeper uses after h.may (λ place at. grind (arith, count_set (is_kept_by keeper) uses place (Ended keeper) Free at, eq-eqb))
