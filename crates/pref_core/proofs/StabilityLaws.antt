-- What an open query was shown at its begin stays, though slots are used again.
use Rattle.pref_core.proofs.Common.{map-set_same, set-set, get_or_from_slice_get, ◌≡◌, ℕ, zero, suc, ◌*◌, ◌<◌, ◌≤◌, Bool, true, false, ◌&&◌, cond, List, [], ◌∷◌, map, drop, Option, Some, None, slice_get}
use Rattle.pref_core.proofs.Common.{slice_set, refl, sym, ap, ap₂, ◌∙◌, arith, AllByRecursion, filter_map, cons_option, take-map, drop-map, Version, Caller, Call, Op, Line, Entry, seat, with_seat}
use Rattle.pref_core.proofs.Common.{is_change, ended, begun, succeeds, Contents, seen, visible, begins, stamps, caller_begun, block_of, new_version, close, is_free, filled, refusal_at, begin_after}
use Rattle.pref_core.proofs.Common.{callers_after, is_next, slots_after, stepped, applied, ran, ends_query, IsStable}
use Rattle.pref_core.proofs.StandsForLaws.{seen_born-before, hidden_unneeded, IsFree-from, some_then, fills_nothing}
use Rattle.pref_core.proofs.OutcomeLaws.{IsAllowed-from}

-- what each slot shows at a stamp
abbrev pub shown : ℕ → List (Option Version) → List (Option Line)
shown stamp slots = map (seen stamp) slots

-- a block shows what its slots show
pub visible_shown : (stamp : ℕ) (slots : List (Option Version)) → visible stamp slots ≡ filter_map (λ s. s) (shown stamp slots)
visible_shown stamp [] = refl
visible_shown stamp (slot ∷ slots) = ap (cons_option (seen stamp slot)) (visible_shown stamp slots)

same_block : (stamp block size : ℕ) (before after : List (Option Version)) → shown stamp after ≡ shown stamp before → visible stamp (block_of block size after) ≡ visible stamp (block_of block size before)
same_block stamp block size before after same =
    grind (arith, visible_shown stamp (block_of block size after), visible_shown stamp (block_of block size before), take-map (seen stamp) size (drop (block * size) after), take-map (seen stamp) size (drop (block * size) before), drop-map (seen stamp) (block * size) after, drop-map (seen stamp) (block * size) before)

shown_close : (ids : List ℕ) (now stamp : ℕ) (slots : List (Option Version)) → stamp ≤ now → shown stamp (map (close ids (suc now)) slots) ≡ shown stamp slots
shown_close ids now stamp [] l = refl
shown_close ids now stamp (slot ∷ slots) l = ap₂ ◌∷◌ (grind (arith)) (shown_close ids now stamp slots l)

shown_set : (stamp : ℕ) (slots : List (Option Version)) (place : ℕ) (old new : Option Version) → slice_get slots place ≡ Some old → seen stamp old ≡ seen stamp new → shown stamp (slice_set slots place new) ≡ shown stamp slots
shown_set stamp slots place old new at same = map-set_same (seen stamp) slots place new old (sym same ∙ ap (seen stamp) (sym (get_or_from_slice_get slots place old old at)))

-- the client's begin is one of the begins
hidden_at : (callers : List Caller) (k stamp : ℕ) (P : ℕ → Type 0) → elim (slice_get callers k) as (λ x. Option ℕ) [ None ↦ None | Some caller ↦ caller.at_begin ] ≡ Some stamp → AllByRecursion P (begins callers) → P stamp
hidden_at (first ∷ callers) (suc k) stamp P is h = grind (arith, hidden_at callers k stamp P is)
hidden_at callers k stamp P is h = grind (arith)

begin_hidden : (contents : Contents) (client stamp : ℕ) (P : ℕ → Type 0) → caller_begun contents client ≡ Some stamp → AllByRecursion P (begins contents.callers) → P stamp
begin_hidden contents zero stamp P e h = absurd (cc)
begin_hidden contents (suc k) stamp P e h = hidden_at contents.callers k stamp P e h

shown_filled : (contents : Contents) (client stamp made : ℕ) → caller_begun contents client ≡ Some stamp → stamp < made → (now : ℕ) (places : List ℕ) (begun : List Entry) (slots after : List (Option Version))
    → filled (now ∷ begins contents.callers) made places begun slots ≡ Some after → shown stamp after ≡ shown stamp slots
shown_filled contents client stamp made is later now (place ∷ places) (fresh ∷ rest) slots after e =
    let parts = some_then (is_free (now ∷ begins contents.callers) slots place) (filled (now ∷ begins contents.callers) made places rest (slice_set slots place (new_version made fresh))) after e in
    let free = IsFree-from (now ∷ begins contents.callers) slots place parts.0 in
    let hidden = hidden_unneeded (now ∷ begins contents.callers) free.old free.unneeded in
    let none : seen stamp free.old ≡ None = begin_hidden contents client stamp (λ n. seen n free.old ≡ None) is hidden.1 in
    shown_filled contents client stamp made is later now places rest (slice_set slots place (new_version made fresh)) after parts.1
    ∙ shown_set stamp slots place free.old (new_version made fresh) free.at (none ∙ sym (seen_born-before stamp made fresh later))
shown_filled contents client stamp made is later now places begun slots after e = grind (arith)

-- the slots after an op show the same at the begin
pub shown_after : (contents : Contents) (client stamp : ℕ) → caller_begun contents client ≡ Some stamp → stamp ≤ contents.stamp → (op : Op) (slots : List (Option Version)) → slots_after contents op ≡ Some slots → shown stamp slots ≡ shown stamp contents.slots
shown_after contents client stamp is l op slots fits = go (is_change op.call && succeeds op.outcome) refl
  where
    go : (b : Bool) → (is_change op.call && succeeds op.outcome) ≡ b → shown stamp slots ≡ shown stamp contents.slots
    go true e =
        shown_filled contents client stamp (suc contents.stamp) is (omega arith) (suc contents.stamp) op.slots (begun contents.next_id op.call) (map (close (ended op.call) (suc contents.stamp)) contents.slots) slots (rw e at fits)
        ∙ shown_close (ended op.call) contents.stamp stamp contents.slots l
    go false e = let quiet = rw e at fits in grind (arith, fills_nothing (stamps contents) contents.stamp op.slots contents.slots)

pub slice_get-set_same : {X : Type 0} (xs : List X) (k : ℕ) (x y : X) → slice_get xs k ≡ Some x → slice_get (slice_set xs k y) k ≡ Some y
slice_get-set_same (z ∷ xs) (suc k) x y h = slice_get-set_same xs k x y h
slice_get-set_same xs k x y h = grind (arith)

pub slice_get-set_other : {X : Type 0} (xs : List X) (k j : ℕ) (y : X) → (k ≡ j → ⊥) → slice_get (slice_set xs j y) k ≡ slice_get xs k
slice_get-set_other (z ∷ xs) (suc k) (suc j) y n = slice_get-set_other xs k j y (λ e. n (ap suc e))
slice_get-set_other xs k j y n = grind (arith)

-- Reads of a list after a write, and a second write.
pub ruleset writes = (slice_get-set_same, slice_get-set_other, set-set)

pub seat-with_seat_same : {X : Type 0} (xs : List X) (client : ℕ) (x y : X) → seat client xs ≡ Some x → seat client (with_seat client y xs) ≡ Some y
seat-with_seat_same xs client x y h = grind (arith, slice_get-set_same)

pub seat-with_seat_other : {X : Type 0} (xs : List X) (client other : ℕ) (y : X) → (client ≡ other → ⊥) → seat client (with_seat other y xs) ≡ seat client xs
seat-with_seat_other xs client other y n = grind (arith, slice_get-set_other)

abbrev pub begun_at : Option Caller → Option ℕ
begun_at o = elim o [ None ↦ None | Some caller ↦ caller.at_begin ]

-- the client's query after its own call
pub begun_own : (callers : List Caller) (client : ℕ) (caller : Caller) (call : Call) (now : ℕ) → seat client callers ≡ Some caller → begun_at (seat client (callers_after now callers client call)) ≡ begin_after now call caller.at_begin
begun_own callers client caller call now at = grind (arith, seat-with_seat_same)

kept_at : (contents : Contents) (client stamp : ℕ) (op : Op) → caller_begun contents client ≡ Some stamp → refusal_at contents op.client op.call ≡ None → ends_query client op ≡ false
    → begun_at (seat client (callers_after contents.stamp contents.callers op.client op.call)) ≡ Some stamp
kept_at contents client stamp op is accepted open_ = grind (arith, seat-with_seat_other, begun_own)

-- What holds of a store, and after each legal op, holds after every op.
pub holds_applied : (contents : Contents) (op : Op) (P : Contents → Type 0) → P contents
    → ((slots : List (Option Version)) → is_next contents op ≡ true → slots_after contents op ≡ Some slots → P (stepped contents op slots)) → P (applied contents op)
holds_applied contents op P still done = go (is_next contents op) refl (slots_after contents op) refl
  where
    go : (b : Bool) → is_next contents op ≡ b → (s : Option (List (Option Version))) → slots_after contents op ≡ s
        → P (cond b (elim s as (λ x. Contents) [ None ↦ contents | Some slots ↦ stepped contents op slots ]) contents)
    go true n (Some slots) e = done slots n e
    go b n s e = grind (arith)

-- what lasts over one op
pub record Lasts (client stamp : ℕ) (before after : Contents) : Type 0 where
  pub at_begin : caller_begun after client ≡ Some stamp
  pub within : stamp ≤ after.stamp
  pub shows : shown stamp after.slots ≡ shown stamp before.slots

pub lasts_applied : (contents : Contents) (client stamp : ℕ) (op : Op) → caller_begun contents client ≡ Some stamp → stamp ≤ contents.stamp → ends_query client op ≡ false → Lasts client stamp contents (applied contents op)
lasts_applied contents client stamp op is l open_ =
    holds_applied contents op (Lasts client stamp contents) (record { at_begin = is; within = l; shows = refl })
    (λ slots n e. grind (arith, kept_at contents client stamp op is (IsAllowed-from contents op n).accepted open_, shown_after contents client stamp is l op slots e))

pub shown_ran : (ops : List Op) (contents : Contents) (client stamp : ℕ) → caller_begun contents client ≡ Some stamp → stamp ≤ contents.stamp → AllByRecursion (λ op. ends_query client op ≡ false) ops → shown stamp (ran contents ops).slots ≡ shown stamp contents.slots
shown_ran [] contents client stamp is l h = refl
shown_ran (op ∷ ops) contents client stamp is l h =
    let once = lasts_applied contents client stamp op is l h.0 in
    shown_ran ops (applied contents op) client stamp once.at_begin once.within h.1 ∙ once.shows

pub is_stable : IsStable
is_stable contents client stamp is l ops h block size = same_block stamp block size _ _ (shown_ran ops contents client stamp is l h)
