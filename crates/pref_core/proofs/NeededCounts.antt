-- As many slots are in use as there are versions that are needed, fewer are needed where rows end alone, and so they stay within the capacity.
use Rattle.pref_core.proofs.Common.{map-append, ◌≡◌, ◌≤◌, ℕ, Bool, true, false, ◌&&◌, ◌||◌, List, [], ◌∷◌, ◌++◌, filter, length, Option, Some, None, is_some, refl, sym, ap, ap₂, ◌∙◌, cons_option, list_any, AllZip, list_any-IsPermutation}
use Rattle.pref_core.proofs.Common.{IsPermutation-map, length-filter, eq-eqb, Version, Caller, Line, Key, same_key, holds_key, keys, different, State, Client, Snapshot, found_tables, needed, Contents, StandsFor, StandsForClient, Shows}
use Rattle.pref_core.proofs.Common.{ShowsBegin, seen, visible, is_needed, begins, stamps, AreDifferent, used, list_any-append, arith, AllByRecursion, and_parts, eqb-true, or_parts, without, Change, Remove, begun_by, begins_any}
use Rattle.pref_core.proofs.Common.{EndsNeedNoMore, suc, slice_get, slice_set, or_cases, or_left, or_right, count_by-le-length, Call, is_change, outcome, succeeds, committed, counted, after, NeededFits, NeededFitsSlots}
use Rattle.std.proofs.lemmas.Map.Made.{length-from_same_keys, length-le_from_is_member}
use Rattle.std.specs.Cmp.{IsEquivalence}
use Rattle.std.specs.List.{IsDistinct}
use Rattle.pref_core.proofs.SlotKeys.{slot_keys, same_key_comm}

key_laws : IsEquivalence same_key
key_laws = record { refl = λ a. rw (eq-eqb a.id a.id refl, eq-eqb a.made a.made refl) refl; symm = same_key_comm; congr = λ a b c h. grind (arith, and_parts, eqb-true) }

apart_from : (x : Key) (ks : List Key) → holds_key ks x ≡ false → AllByRecursion (λ k. same_key x k ≡ false) ks
apart_from x [] h = tt
apart_from x (k ∷ ks) h = let p = or_parts (same_key x k) (holds_key ks x) h in (p.0, apart_from x ks p.1)

distinct : (ks : List Key) → AreDifferent ks → IsDistinct same_key ks
unfolding IsDistinct
distinct [] h = tt
distinct (k ∷ ks) h = (apart_from k ks h.0, distinct ks h.1)

holds_key-different : (ks : List Key) (key : Key) → holds_key (different ks) key ≡ holds_key ks key
holds_key-different [] key = refl
holds_key-different (k ∷ ks) key = grind (arith, holds_key-different ks key)

AreDifferent-different : (ks : List Key) → AreDifferent (different ks)
AreDifferent-different [] = tt
AreDifferent-different (k ∷ ks) = grind (arith, AreDifferent-different ks, holds_key-different)

-- no more keys are different where each is held by the others
pub fewer : (xs ys : List Key) → ((key : Key) → holds_key xs key ≡ true → holds_key ys key ≡ true) → length (different xs) ≤ length (different ys)
fewer xs ys in_ = length-le_from_is_member key_laws (different xs) (different ys) (distinct (different xs) (AreDifferent-different xs)) (λ key h. holds_key-different ys key ∙ in_ key (sym (holds_key-different xs key) ∙ h))

-- whether the slot holds the version of this key
has_key : Key → Option Version → Bool
has_key key None = false
has_key key (Some version) = same_key key (record { id = version.id; made = version.birth })

holds_key-visible : (stamp : ℕ) (key : Key) (slots : List (Option Version)) → holds_key (keys (visible stamp slots)) key ≡ list_any (λ slot. is_some (seen stamp slot) && has_key key slot) slots
unfolding has_key
holds_key-visible stamp key [] = refl
holds_key-visible stamp key (slot ∷ slots) = grind (arith, holds_key-visible stamp key slots)

holds_key-needed : (ns : List ℕ) (key : Key) (slots : List (Option Version)) → holds_key (slot_keys (filter (is_needed ns) slots)) key ≡ list_any (λ slot. is_needed ns slot && has_key key slot) slots
unfolding has_key
holds_key-needed ns key [] = refl
holds_key-needed ns key (slot ∷ slots) = grind (arith, holds_key-needed ns key slots)

-- needed at the first stamp or at one of the others
list_any-shared : {X : Type 0} (p q r : X → Bool) (xs : List X) → list_any (λ x. (p x || q x) && r x) xs ≡ (list_any (λ x. p x && r x) xs || list_any (λ x. q x && r x) xs)
list_any-shared p q r [] = refl
list_any-shared p q r (x ∷ xs) = grind (arith, list_any-shared p q r xs)

list_any-none : {X : Type 0} (r : X → Bool) (xs : List X) → list_any (λ x. false && r x) xs ≡ false
list_any-none r [] = refl
list_any-none r (x ∷ xs) = list_any-none r xs

pub holds_key-keys-append : (key : Key) (xs ys : List Line) → holds_key (keys (xs ++ ys)) key ≡ (holds_key (keys xs) key || holds_key (keys ys) key)
holds_key-keys-append key xs ys = ap (list_any (same_key key)) (map-append (λ (l : Line). record { id = l.id; made = l.made }) xs ys) ∙ list_any-append (same_key key) (keys xs) (keys ys)

-- a table's keys are those that the slots show
holds_key-shown : (slots : List (Option Version)) (stamp : ℕ) (table : List Line) (key : Key) → Shows slots stamp table → holds_key (keys table) key ≡ list_any (λ slot. is_some (seen stamp slot) && has_key key slot) slots
holds_key-shown slots stamp table key shows = grind (arith, list_any-IsPermutation, IsPermutation-map, holds_key-visible)

abbrev needed_somewhere : List ℕ → Key → List (Option Version) → Bool
needed_somewhere ns key slots = list_any (λ slot. is_needed ns slot && has_key key slot) slots

holds_key-found : (slots : List (Option Version)) (now : ℕ) (callers : List Caller) (clients : List Client) (key : Key) → AllZip (StandsForClient slots now) callers clients → holds_key (keys (found_tables clients)) key ≡ needed_somewhere (begins callers) key slots
holds_key-found slots now [] [] key h = sym (list_any-none (has_key key) slots)
holds_key-found slots now [] (client ∷ clients) key h = absurd h
holds_key-found slots now (caller ∷ callers) [] key h = absurd h
holds_key-found slots now (caller ∷ callers) (client ∷ clients) key h = go caller.at_begin client.at_begin h.0.at_begin (holds_key-found slots now callers clients key h.1)
  where
    go : (b : Option ℕ) (f : Option Snapshot) → ShowsBegin slots now b f → holds_key (keys (found_tables clients)) key ≡ needed_somewhere (begins callers) key slots
        → holds_key (keys (found_tables (record { calls = client.calls; at_begin = f } ∷ clients))) key ≡ needed_somewhere (cons_option b (begins callers)) key slots
    go (Some stamp) (Some found) s rest =
        holds_key-keys-append key found.table (found_tables clients)
        ∙ ap₂ (λ a b. a || b) (holds_key-shown slots stamp found.table key s.2) rest
        ∙ sym (list_any-shared (λ slot. is_some (seen stamp slot)) (is_needed (begins callers)) (has_key key) slots)
    go b f s rest = grind (arith)

-- the slots that are needed hold different versions
holds_key-filter : (p : Option Version → Bool) (slots : List (Option Version)) (key : Key) → holds_key (slot_keys slots) key ≡ false → holds_key (slot_keys (filter p slots)) key ≡ false
holds_key-filter p [] key h = refl
holds_key-filter p (slot ∷ slots) key h = grind (arith, holds_key-filter p slots key)

AreDifferent-filter : (p : Option Version → Bool) (slots : List (Option Version)) → AreDifferent (slot_keys slots) → AreDifferent (slot_keys (filter p slots))
AreDifferent-filter p [] h = tt
AreDifferent-filter p (slot ∷ slots) h = grind (arith, AreDifferent-filter p slots, holds_key-filter, slot_keys)

-- an empty slot is needed at no stamp
pub is_needed-empty : (ns : List ℕ) → is_needed ns None ≡ false
is_needed-empty [] = refl
is_needed-empty (n ∷ ns) = is_needed-empty ns

length_needed : (ns : List ℕ) (slots : List (Option Version)) → length (slot_keys (filter (is_needed ns) slots)) ≡ length (filter (is_needed ns) slots)
length_needed ns [] = refl
length_needed ns (slot ∷ slots) = grind (arith, length_needed ns slots, is_needed-empty)

-- the size of `needed` is the number of slots in use
pub length-needed : (contents : Contents) (state : State) → StandsFor contents state → length (needed state) ≡ used contents
length-needed contents state h =
    length-from_same_keys key_laws _ _ (distinct _ (AreDifferent-different (keys (state.table ++ found_tables state.clients)))) (distinct _ (AreDifferent-filter (is_needed (stamps contents)) contents.slots h.separate)) same
    ∙ length_needed (stamps contents) contents.slots
    ∙ length-filter (is_needed (stamps contents)) contents.slots
  where
    same : (key : Key) → holds_key (needed state) key ≡ holds_key (slot_keys (filter (is_needed (stamps contents)) contents.slots)) key
    same key =
        holds_key-different (keys (state.table ++ found_tables state.clients)) key
        ∙ holds_key-keys-append key state.table (found_tables state.clients)
        ∙ ap₂ (λ a b. a || b) (holds_key-shown contents.slots contents.stamp state.table key h.table) (holds_key-found contents.slots contents.stamp contents.callers state.clients key h.clients)
        ∙ sym (list_any-shared (λ slot. is_some (seen contents.stamp slot)) (is_needed (begins contents.callers)) (has_key key) contents.slots)
        ∙ sym (holds_key-needed (stamps contents) key contents.slots)

held_without : (ids : List ℕ) (table : List Line) (key : Key) → holds_key (keys (without ids table)) key ≡ true → holds_key (keys table) key ≡ true
held_without ids [] key h = h
held_without ids (line ∷ rest) key h = grind (arith, held_without ids rest key)

none_begun : (next_id : ℕ) (changes : List Change) → begins_any changes ≡ false → begun_by next_id changes ≡ []
none_begun next_id (Remove id ∷ rest) h = none_begun next_id rest h
none_begun next_id changes h = grind (arith)

pub ends_need_no_more : EndsNeedNoMore
ends_need_no_more state call h = grind (arith, none_begun, fewer, holds_key-keys-append, held_without)

holds : Key → List Line → Bool
holds key table = holds_key (keys table) key

found_of : Option Snapshot → List Line
found_of None = []
found_of (Some found) = found.table

cons_found : (key : Key) (client : Client) (clients : List Client) → holds key (found_tables (client ∷ clients)) ≡ (holds key (found_of client.at_begin) || holds key (found_tables clients))
unfolding holds found_of
cons_found key client clients = grind (arith, holds_key-keys-append)

-- what open queries found, once a client is another
found_set : (key : Key) (clients : List Client) (k : ℕ) (new : Client) → holds key (found_tables (slice_set clients k new)) ≡ true → (holds key (found_of new.at_begin) || holds key (found_tables clients)) ≡ true
found_set key (client ∷ clients) (suc k) new h = grind (arith, found_set key clients k new, cons_found)
found_set key clients k new h = grind (arith, cons_found)

found_has : (key : Key) (clients : List Client) (k : ℕ) (who : Client) → slice_get clients k ≡ Some who → holds key (found_of who.at_begin) ≡ true → holds key (found_tables clients) ≡ true
found_has key (client ∷ clients) (suc k) who at h = cons_found key client clients ∙ or_right (holds key (found_of client.at_begin)) _ (found_has key clients k who at h)
found_has key clients k who at h = grind (arith, cons_found)

-- what open queries found after a call: no more than before, and the table where the call is a begin
found_counted : (key : Key) (table : List Line) (state : State) (client : ℕ) (call : Call) → (is_change call ≡ false → table ≡ state.table) → holds key (found_tables (counted state client call)) ≡ true → (holds key table || holds key (found_tables state.clients)) ≡ true
unfolding holds found_of
found_counted key table state client call quiet = grind (arith, found_has, found_set)

-- with these clients no more is needed
needed_counted : (table : List Line) (state : State) (client : ℕ) (call : Call) (next_id commits : ℕ) → (is_change call ≡ false → table ≡ state.table)
    → length (needed (record { table = table; next_id = next_id; commits = commits; clients = counted state client call })) ≤ length (needed (record { table = table; next_id = next_id; commits = commits; clients = state.clients }))
unfolding holds
needed_counted table state client call next_id commits quiet = grind (arith, fewer, holds_key-keys-append, or_left, found_counted, or_cases)

-- a change that succeeds leaves what is within the capacity: where it begins no row no more is needed
change_fits : (capacity : ℕ) (state : State) (call : Call) → is_change call ≡ true → succeeds (outcome capacity state call) ≡ true → length (needed state) ≤ capacity → length (needed (committed call state)) ≤ capacity
change_fits capacity state call c s fits = grind (arith, ends_need_no_more)

after_fits : (capacity : ℕ) (state : State) (client : ℕ) (call : Call) → length (needed state) ≤ capacity → length (needed (after capacity state client call)) ≤ capacity
after_fits capacity state client call fits =
    grind (arith, change_fits capacity state call, needed_counted state.table state client call state.next_id state.commits (λ q. refl), needed_counted (committed call state).table state client call (committed call state).next_id (committed call state).commits)

pub needed_fits : NeededFits
needed_fits capacity state [] fits legal = fits
needed_fits capacity state (numbered ∷ history) fits legal = needed_fits capacity (after capacity state numbered.client numbered.call) history (after_fits capacity state numbered.client numbered.call fits) legal.1

pub needed_fits_slots : NeededFitsSlots
needed_fits_slots contents state h = let size = length-needed contents state h in let few = count_by-le-length (is_needed (stamps contents)) contents.slots in omega arith
