-- The changes of a commit: which ids they name, that the rows that they begin have ids of their own, and how many they are.
use Rattle.pref_core.proofs.Common.{◌≡◌, ℕ, suc, ◌+◌, ◌<◌, ◌≤◌, true, false, ◌||◌, eqb, List, [], ◌∷◌, ◌++◌, map, length, take, drop, add-one, slice_get, Some, None, refl, sym, ap, ◌∙◌, arith, ◌⊎◌, append-nil, take_more, slice_get_within}
use Rattle.pref_core.proofs.Common.{get_or_from_slice_get, or_right, eq-eqb, Change, Add, Set, Remove, Call, ended_by, begun_by, added_by, twice_from, is_commit, Line, among, has, missing, ended, is_formed, AreFresh, Entry, list_any-append}
use Rattle.pref_core.proofs.Common.{zero, Bool, cond, get_or, nat_lt, drop-cons, take-append-drop, begins_any, ap₂, length-take-le, names_again, twice}
use Rattle.std.proofs.Common.{drop-cons}

pub commit_length : (commit : List Change) → is_commit commit ≡ true → length commit ≤ 8
commit_length commit h = grind (arith)

-- no id comes twice
abbrev pub AreApart : List ℕ → Type 0
AreApart [] = Unit {0}
AreApart (id ∷ ids) = (among ids id ≡ false) × AreApart ids

pub among_first : (id : ℕ) (ids : List ℕ) → among (id ∷ ids) id ≡ true
among_first id ids = ap (λ b. b || among ids id) (eq-eqb id id refl)

pub among_append : (xs ys : List ℕ) (id : ℕ) → among (xs ++ ys) id ≡ (among xs id || among ys id)
among_append xs ys id = list_any-append (λ other. eqb other id) xs ys

-- an id that is in the list
pub among_inside : (xs ys : List ℕ) (id : ℕ) → among (xs ++ id ∷ ys) id ≡ true
among_inside xs ys id = among_append xs (id ∷ ys) id ∙ or_right (among xs id) (among (id ∷ ys) id) (among_first id ys)

pub ended_by-append : (xs ys : List Change) → ended_by (xs ++ ys) ≡ ended_by xs ++ ended_by ys
ended_by-append [] ys = refl
ended_by-append (change ∷ xs) ys = grind (arith, ended_by-append xs ys)

-- changes that name no id twice, nor one of these ids
record Names (earlier : List ℕ) (ids : List ℕ) : Type 0 where
  apart : AreApart ids
  others : (id : ℕ) → among ids id ≡ true → among earlier id ≡ false

names_more : (earlier : List ℕ) (id : ℕ) (ids : List ℕ) → among earlier id ≡ false → Names (earlier ++ id ∷ []) ids → Names earlier (id ∷ ids)
names_more earlier id ids new h = grind (arith, among_append)

once : (earlier changes : List Change) → twice_from earlier changes ≡ None → Names (ended_by earlier) (ended_by changes)
once earlier [] h = grind (arith)
once earlier (change ∷ rest) h = grind (arith, once (earlier ++ change ∷ []) rest, names_more, ended_by-append, append-nil)

pub formed_apart : (call : Call) → is_formed call ≡ true → AreApart (ended call)
formed_apart call h = grind (arith, once)

-- where none is missing each is there
pub found_all : (ids : List ℕ) (table : List Line) → missing ids table ≡ None → (id : ℕ) → among ids id ≡ true → has table id ≡ true
found_all [] table m id a = grind (arith)
found_all (first ∷ ids) table m id a = grind (arith, found_all ids table)

abbrev pub ids_of : List Entry → List ℕ
ids_of entries = map (λ entry. entry.id) entries

-- a row that begins has the id of one that ends, or a new one
begun_ids : (next : ℕ) (changes : List Change) (id : ℕ) → among (ids_of (begun_by next changes)) id ≡ true → (among (ended_by changes) id ≡ true) ⊎ (next ≤ id)
begun_ids next [] id a = absurd (cc)
begun_ids next (change ∷ rest) id a = grind (arith, begun_ids next rest id, begun_ids (suc next) rest id)

-- the rows that changes begin, over a table that has none of the ids from `start` on nor those that they name
pub begun_fresh : (start next limit : ℕ) (table : List Line) (changes : List Change) → start ≤ next → next + added_by changes ≤ limit
    → ((id : ℕ) → among (ended_by changes) id ≡ true → (id < start) × (has table id ≡ false)) → ((id : ℕ) → start ≤ id → has table id ≡ false)
    → AreApart (ended_by changes) → AreFresh limit table (begun_by next changes)
begun_fresh start next limit table [] l few low high apart = tt
begun_fresh start next limit table (Add row ∷ rest) l few low high apart = grind (arith, begun_fresh start (suc next) limit table rest (omega arith) (omega arith) low high apart, begun_ids)
begun_fresh start next limit table (Set id row ∷ rest) l few low high apart = grind (arith, begun_fresh start next limit table rest l few (λ other there. low other (or_right (eqb id other) (among (ended_by rest) other) there)) high apart.1, begun_ids)
begun_fresh start next limit table (Remove id ∷ rest) l few low high apart = grind (arith, begun_fresh start next limit table rest l few (λ other there. low other (or_right (eqb id other) (among (ended_by rest) other) there)) high apart.1)

-- The changes up to a place, and those from it on.
pub drop_at : {X : Type 0} (xs : List X) (at : ℕ) (x : X) → slice_get xs at ≡ Some x → drop at xs ≡ x ∷ drop (at + 1) xs
drop_at (y ∷ xs) (suc at) x e = drop_at xs at x e ∙ ap (λ n. x ∷ drop n xs) (add-one at) ∙ ap (λ n. x ∷ drop n (y ∷ xs)) (sym (add-one (suc at)))
drop_at xs at x e = grind (arith)

pub take_at : {X : Type 0} (xs : List X) (at : ℕ) (x : X) → slice_get xs at ≡ Some x → take (at + 1) xs ≡ take at xs ++ x ∷ []
take_at xs at x e = let inside = slice_get_within xs at x e in take_more xs at x inside ∙ ap (λ y. take at xs ++ y ∷ []) (get_or_from_slice_get xs at x x e)

pub ended_so_far : (changes : List Change) (at : ℕ) (change : Change) → slice_get changes at ≡ Some change → ended_by (take (at + 1) changes) ≡ ended_by (take at changes) ++ ended_by (change ∷ [])
ended_so_far changes at change e = ap ended_by (take_at changes at change e) ∙ ended_by-append (take at changes) (change ∷ [])

pub begun_from : (next : ℕ) (change : Change) (rest : List Change) → begun_by next (change ∷ rest) ≡ begun_by next (change ∷ []) ++ begun_by (next + added_by (change ∷ [])) rest
begun_from next change rest = grind (arith)

pub begun_at : (next : ℕ) (changes : List Change) (at : ℕ) (change : Change) → slice_get changes at ≡ Some change → begun_by next (drop at changes) ≡ begun_by next (change ∷ []) ++ begun_by (next + added_by (change ∷ [])) (drop (at + 1) changes)
begun_at next changes at change e = ap (begun_by next) (drop_at changes at change e) ∙ begun_from next change (drop (at + 1) changes)

pub added_one : (change : Change) → added_by (change ∷ []) ≤ 1
added_one change = grind (arith)

pub begun_few : (next : ℕ) (changes : List Change) → length (begun_by next changes) ≤ length changes
begun_few next [] = omega arith
begun_few next (change ∷ rest) = grind (arith, begun_few next rest, begun_few (suc next) rest)

pub drop_item : {X : Type 0} (xs : List X) (at : ℕ) (x other : X) → x ≡ get_or xs at other → at < length xs → drop at xs ≡ x ∷ drop (at + 1) xs
drop_item xs at x other is inside = drop-cons xs at other inside ∙ ap (λ y. y ∷ drop (suc at) xs) (sym is) ∙ ap (λ n. x ∷ drop n xs) (sym (add-one at))

-- The ids that the first changes end, and the next one.
pub ended_first : (at : ℕ) (changes : List Change) → length (ended_by (take at changes)) ≤ at
ended_first zero changes = grind (arith)
ended_first (suc at) changes = grind (arith, ended_first at)

pub ended_next : (changes : List Change) (at : ℕ) (change : Change) (id : ℕ) → slice_get changes at ≡ Some change → ended_by (change ∷ []) ≡ id ∷ [] → ended_by changes ≡ ended_by (take at changes) ++ id ∷ ended_by (drop (at + 1) changes)
ended_next changes at change id e named = grind (arith, take-append-drop at changes, ended_by-append (take at changes) (drop at changes), drop_at changes at change e)

pub named_at : (changes : List Change) (at : ℕ) (change : Change) (id : ℕ) → slice_get changes at ≡ Some change → ended_by (change ∷ []) ≡ id ∷ [] → among (ended_by changes) id ≡ true
named_at changes at change id e named = ap (λ l. among l id) (ended_next changes at change id e named) ∙ among_inside (ended_by (take at changes)) (ended_by (drop (at + 1) changes)) id

-- The next id has no say in how many rows begin.
begun_alike : (m n : ℕ) (changes : List Change) → length (begun_by m changes) ≡ length (begun_by n changes)
begun_alike m n [] = refl
begun_alike m n (change ∷ rest) = grind (arith, begun_alike m n rest, begun_alike (suc m) (suc n) rest)

pub one_begins : (next : ℕ) (change : Change) (rest : List Change) (begins : Bool) → begins_any (change ∷ []) ≡ begins → length (begun_by next (change ∷ rest)) ≡ cond begins (suc (length (begun_by next rest))) (length (begun_by next rest))
one_begins next change rest begins e = grind (arith, begun_alike)

-- changes begin a row where the rows that they begin are more than none
pub begins_some : (next : ℕ) (changes : List Change) → nat_lt 0 (length (begun_by next changes)) ≡ begins_any changes
begins_some next (Remove id ∷ rest) = begins_some next rest
begins_some next changes = grind (arith)

pub added_by-length : (changes : List Change) → added_by changes ≤ length changes
added_by-length [] = omega arith
added_by-length (change ∷ rest) = grind (arith, added_by-length rest)

one_step : (changes : List Change) (at : ℕ) (d : Change) → at < length changes
    → twice_from (take at changes) (drop at changes) ≡ cond (names_again (take at changes) (get_or changes at d)) (Some (suc at)) (twice_from (take (at + 1) changes) (drop (at + 1) changes))
one_step changes at d l =
    let next : suc at ≡ at + 1 = omega arith in
    let few : at ≤ length changes = omega arith in
    ap (twice_from (take at changes)) (drop-cons changes at d l)
    ∙ ap₂ (λ n earlier. cond (names_again (take at changes) (get_or changes at d)) (Some (suc n)) (twice_from earlier (drop (suc at) changes))) (length-take-le at changes few) (sym (take_more changes at d l))
    ∙ ap (λ n. cond (names_again (take at changes) (get_or changes at d)) (Some (suc at)) (twice_from (take (at + 1) changes) (drop n changes))) next

pub named_here : (changes : List Change) (at : ℕ) (d : Change) → twice_from (take at changes) (drop at changes) ≡ twice changes → at < length changes → names_again (take at changes) (get_or changes at d) ≡ true → Some (at + 1) ≡ twice changes
named_here changes at d so_far l again = grind (arith, one_step changes at d l)

pub not_here : (changes : List Change) (at : ℕ) (d : Change) → twice_from (take at changes) (drop at changes) ≡ twice changes → at < length changes → names_again (take at changes) (get_or changes at d) ≡ false → twice_from (take (at + 1) changes) (drop (at + 1) changes) ≡ twice changes
not_here changes at d so_far l again = sym (one_step changes at d l ∙ ap (λ b. cond b (Some (suc at)) (twice_from (take (at + 1) changes) (drop (at + 1) changes))) again) ∙ so_far
