-- What slots show at each stamp when versions end, begin, and take a slot that isn't needed.
use Rattle.pref_core.proofs.Common.{◌≡◌, ℕ, suc, ◌≤◌, false, not, List, [], ◌∷◌, map, Option, Some, None, slice_get, slice_set, refl, arith, AllByRecursion, AllZip, IsPermutation-trans, IsPermutation-sym, Version, Caller, Line, among, is_some, nat_eq}
use Rattle.pref_core.proofs.Common.{without, Entry, Client, Snapshot, seen, is_needed, begins, IsWithin, Shows, ShowsBegin, StandsForClient, new_version, close, rules, ◌+◌, Bool, true, cond, ◌++◌, length, ap, ◌∙◌, subst, State, Contents}
use Rattle.pref_core.proofs.Common.{StandsFor, stamps, is_free, filled, ◌<◌, nat_lt, cons_option, IsPermutation, IsPermutation-refl, IsPermutation-cons, lt-leb, put, visible}
use Rattle.pref_core.proofs.Permutations.{IsPermutation-filter, IsPermutation-over}
use Rattle.pref_core.proofs.TableLaws.{IsOrdered-filter}
use Rattle.pref_core.proofs.SlotKeys.{AreDifferent-set, AllByRecursion-set}

-- a write of a slot that shows nothing, by one that shows nothing
pub visible_set-same : (stamp : ℕ) (slots : List (Option Version)) (place : ℕ) (old new : Option Version) → slice_get slots place ≡ Some old → seen stamp old ≡ None → seen stamp new ≡ None → visible stamp (slice_set slots place new) ≡ visible stamp slots
visible_set-same stamp (slot ∷ slots) (suc place) old new e p q = ap (cons_option (seen stamp slot)) (visible_set-same stamp slots place old new e p q)
visible_set-same stamp slots place old new e p q = grind (arith)

-- and by one that shows a line
pub visible_set-new : (stamp : ℕ) (slots : List (Option Version)) (place : ℕ) (old new : Option Version) (shown : Line) → slice_get slots place ≡ Some old → seen stamp old ≡ None → seen stamp new ≡ Some shown → IsPermutation (shown ∷ visible stamp slots) (visible stamp (slice_set slots place new))
visible_set-new stamp (slot ∷ slots) (suc place) old new shown e p q =
    elim (seen stamp slot) as (λ s. IsPermutation (shown ∷ cons_option s (visible stamp slots)) (cons_option s (visible stamp (slice_set slots place new)))) [
      | None ↦ visible_set-new stamp slots place old new shown e p q
      | Some front ↦ IsPermutation-trans _ _ _ (IsPermutation-over shown front (visible stamp slots)) (IsPermutation-cons front _ _ (visible_set-new stamp slots place old new shown e p q))
    ]
visible_set-new stamp slots place old new shown e p q = grind (arith)

-- a line put in its place is the table with the line
pub put_permutes : (shown : Line) (table : List Line) → IsPermutation (shown ∷ table) (put shown table)
put_permutes shown [] = IsPermutation-refl _
put_permutes shown (next ∷ rest) =
    elim (nat_lt shown.id next.id) as (λ b. IsPermutation (shown ∷ next ∷ rest) (cond b (shown ∷ next ∷ rest) (next ∷ put shown rest))) [
      | true ↦ IsPermutation-refl _
      | false ↦ IsPermutation-trans _ _ _ (IsPermutation-over shown next rest) (IsPermutation-cons next _ _ (put_permutes shown rest))
    ]

-- what versions that end at a later stamp show before: the same
pub visible_close-before : (ids : List ℕ) (now stamp : ℕ) (slots : List (Option Version)) → stamp ≤ now → visible stamp (map (close ids (suc now)) slots) ≡ visible stamp slots
visible_close-before ids now stamp [] h = refl
visible_close-before ids now stamp (slot ∷ slots) h = grind (arith, visible_close-before ids now stamp slots h)

-- a line goes out where its id is one of these
abbrev pub kept : List ℕ → Option Line → Option Line
kept ids None = None
kept ids (Some shown) = cond (not (among ids shown.id)) (Some shown) None

pub visible_close-after : (ids : List ℕ) (next now : ℕ) (slots : List (Option Version)) → AllByRecursion (IsWithin next now) slots → visible (suc now) (map (close ids (suc now)) slots) ≡ without ids (visible now slots)
visible_close-after ids next now [] h = refl
visible_close-after ids next now (slot ∷ slots) h = grind (arith, visible_close-after ids next now slots h.1)

-- a new version shows nothing before its birth
pub seen_born-before : (stamp made : ℕ) (fresh : Entry) → stamp < made → seen stamp (new_version made fresh) ≡ None
seen_born-before stamp made fresh h = rw (lt-leb made stamp h) refl

-- versions of these ids end
pub Shows-close : (ids : List ℕ) (next now : ℕ) (slots : List (Option Version)) (table : List Line) → AllByRecursion (IsWithin next now) slots → Shows slots now table → Shows (map (close ids (suc now)) slots) (suc now) (without ids table)
Shows-close ids next now slots table within shows = record {
  lines = rw (visible_close-after ids next now slots within) (IsPermutation-filter (λ line. not (among ids line.id)) _ _ shows.lines);
  ordered = IsOrdered-filter (λ line. not (among ids line.id)) table shows.ordered;
}

-- a slot that shows nothing is used again
pub Shows-set : (stamp : ℕ) (slots : List (Option Version)) (place : ℕ) (old new : Option Version) (table : List Line) → slice_get slots place ≡ Some old → seen stamp old ≡ None → Shows (new ∷ slots) stamp table → Shows (slice_set slots place new) stamp table
Shows-set stamp slots place old new table at hidden shows = grind (arith, IsPermutation-trans, IsPermutation-sym, visible_set-same, visible_set-new)

-- what a slot that isn't needed shows: nothing at any of the stamps
pub hidden_unneeded : (stamps : List ℕ) (slot : Option Version) → is_needed stamps slot ≡ false → AllByRecursion (λ stamp. seen stamp slot ≡ None) stamps
hidden_unneeded [] slot h = grind (arith)
hidden_unneeded (stamp ∷ stamps) slot h = grind (arith, hidden_unneeded stamps slot)

-- what open queries were shown stays, where the slots show the same at their begins
ShowsBegin-moved : (slots moved : List (Option Version)) (now later : ℕ) → now ≤ later → (begun : Option ℕ) (found : Option Snapshot) → ((stamp : ℕ) (table : List Line) → begun ≡ Some stamp → stamp ≤ now → Shows slots stamp table → Shows moved stamp table) → ShowsBegin slots now begun found → ShowsBegin moved later begun found
ShowsBegin-moved slots moved now later l (Some stamp) (Some found) f h = (h.0, omega arith, f stamp found.table refl h.1 h.2)
ShowsBegin-moved slots moved now later l begun found f h = grind (arith)

pub AllZip-weaker : {A B : Type 0} (R Q : A → B → Type 0) → ((a : A) (b : B) → R a b → Q a b) → (xs : List A) (ys : List B) → AllZip R xs ys → AllZip Q xs ys
AllZip-weaker R Q f (x ∷ xs) (y ∷ ys) h = (f x y h.0, AllZip-weaker R Q f xs ys h.1)
AllZip-weaker R Q f xs ys h = grind (arith)

pub clients-close : (ids : List ℕ) (now : ℕ) (slots : List (Option Version)) (callers : List Caller) (clients : List Client) → AllZip (StandsForClient slots now) callers clients → AllZip (StandsForClient (map (close ids (suc now)) slots) now) callers clients
clients-close ids now slots = AllZip-weaker (StandsForClient slots now) (StandsForClient (map (close ids (suc now)) slots) now) (λ caller client h. record {
  calls = h.calls;
  at_begin = ShowsBegin-moved slots _ now now (omega arith) caller.at_begin client.at_begin (λ stamp table e l shows. search (rules, visible_close-before)) h.at_begin;
})

pub clients-later : (now : ℕ) (slots : List (Option Version)) (callers : List Caller) (clients : List Client) → AllZip (StandsForClient slots now) callers clients → AllZip (StandsForClient slots (suc now)) callers clients
clients-later now slots = grind (arith, AllZip-weaker)

pub clients-set : (now : ℕ) (slots : List (Option Version)) (place : ℕ) (old new : Option Version) → slice_get slots place ≡ Some old → (callers : List Caller) (clients : List Client) → AllByRecursion (λ stamp. seen stamp old ≡ None) (begins callers) → AllZip (StandsForClient (new ∷ slots) now) callers clients → AllZip (StandsForClient (slice_set slots place new) now) callers clients
clients-set now slots place old new at (caller ∷ callers) (client ∷ clients) hidden h = grind (arith, clients-set now slots place old new at callers clients, ShowsBegin-moved, Shows-set)
clients-set now slots place old new at callers clients hidden h = grind (arith)

-- what a free slot is
pub record IsFree (ns : List ℕ) (slots : List (Option Version)) (place : ℕ) : Type 0 where
  pub old : Option Version
  pub at : slice_get slots place ≡ Some old
  pub unneeded : is_needed ns old ≡ false

pub IsFree-from : (ns : List ℕ) (slots : List (Option Version)) (place : ℕ) → is_free ns slots place ≡ true → IsFree ns slots place
IsFree-from ns slots place h = grind (arith)

set_stands : (contents : Contents) (state : State) (place : ℕ) (new : Option Version) → IsFree (stamps contents) contents.slots place
    → StandsFor (record { slots = new ∷ contents.slots; stamp = contents.stamp; next_id = contents.next_id; callers = contents.callers }) state
    → StandsFor (record { slots = slice_set contents.slots place new; stamp = contents.stamp; next_id = contents.next_id; callers = contents.callers }) state
set_stands contents state place new free h = grind (arith, hidden_unneeded, Shows-set, clients-set, AreDifferent-set, AllByRecursion-set)

slice_get_behind : {X : Type 0} (front xs : List X) (i n : ℕ) → n ≡ length front + i → slice_get (front ++ xs) n ≡ slice_get xs i
slice_get_behind (x ∷ front) xs i (suc n) e = slice_get_behind front xs i n (omega arith)
slice_get_behind front xs i n e = grind (arith)

slice_set_behind : {X : Type 0} (front xs : List X) (i n : ℕ) (y : X) → n ≡ length front + i → slice_set (front ++ xs) n y ≡ front ++ slice_set xs i y
slice_set_behind {X} (x ∷ front) xs i (suc n) y e = ap (λ (l : List X). x ∷ l) (slice_set_behind front xs i n y (omega arith))
slice_set_behind {X} front xs i n y e = grind (arith)

IsFree-behind : (ns : List ℕ) (front slots : List (Option Version)) (place : ℕ) → IsFree ns slots place → IsFree ns (front ++ slots) (length front + place)
IsFree-behind ns front slots place h = record { old = h.old; at = slice_get_behind front slots place _ refl ∙ h.at; unneeded = h.unneeded }

-- a test that gives something, where its other branch has none
pub some_then : {X : Type 0} (b : Bool) (o : Option X) (x : X) → cond b o None ≡ Some x → (b ≡ true) × (o ≡ Some x)
some_then b o x e = grind (arith)

-- No row fits in no slot alone.
pub fills_nothing : (ns : List ℕ) (made : ℕ) (places : List ℕ) (slots : List (Option Version)) → filled ns made places [] slots ≡ cond (nat_eq (length places) 0) (Some slots) None
fills_nothing ns made [] slots = refl
fills_nothing ns made (place ∷ places) slots = grind (arith)

-- what a value that is there is
pub some_is : {X : Type 0} (o : Option X) → is_some o ≡ true → (x : X) × (o ≡ Some x)
some_is None some = absurd (cc)
some_is (Some x) some = (x, refl)

-- each in its turn
pub filled_stands : (contents : Contents) (state : State) (made : ℕ) (places : List ℕ) (begun : List Entry) (slots after : List (Option Version)) → filled (stamps contents) made places begun slots ≡ Some after
    → StandsFor (record { slots = map (new_version made) begun ++ slots; stamp = contents.stamp; next_id = contents.next_id; callers = contents.callers }) state
    → StandsFor (record { slots = after; stamp = contents.stamp; next_id = contents.next_id; callers = contents.callers }) state
filled_stands contents state made (place ∷ places) (fresh ∷ rest) slots after e h =
    let parts = some_then (is_free (stamps contents) slots place) (filled (stamps contents) made places rest (slice_set slots place (new_version made fresh))) after e in
    let front = map (new_version made) rest in
    let free = IsFree-behind (stamps contents) front slots place (IsFree-from (stamps contents) slots place parts.0) in
    let set = set_stands (record { slots = front ++ slots; stamp = contents.stamp; next_id = contents.next_id; callers = contents.callers }) state (length front + place) (new_version made fresh) free h in
    filled_stands contents state made places rest (slice_set slots place (new_version made fresh)) after parts.1
    (subst (λ l. StandsFor (record { slots = l; stamp = contents.stamp; next_id = contents.next_id; callers = contents.callers }) state) (slice_set_behind front slots place _ (new_version made fresh) refl) set)
filled_stands contents state made places begun slots after e h = grind (arith)
