-- The opening slots stand for the opening state, and their links are those of their rows.
use Rattle.pref_core.proofs.Common.{◌≡◌, ℕ, zero, suc, ◌+◌, ◌-◌, ◌^◌, ◌<◌, ◌≤◌, false, List, [], ◌∷◌, ◌++◌, length, replicate, Option, None, refl, sym, ap, ap₂, ◌∙◌, subst, arith, AllByRecursion, AllZip, IsPermutation, IsPermutation-refl}
use Rattle.pref_core.proofs.Common.{append-nil, filter_map, length-append, length-replicate, filter_map-append, le-leb, Version, Caller, Row, holds_key, IsOrdered, opening, opening_table, idle_clients, Contents, StandsFor, StandsForClient}
use Rattle.pref_core.proofs.Common.{seen, visible, slot_key, AreDifferent, IsWithin, opening_slots, IsKept, cond, nat_lt, get_or, Some, length-map, ids_of, id_at, AreLinks, AreOpening, opening_link}
use Rattle.pref_core.proofs.SlotKeys.{slot_keys}
use Rattle.std.proofs.Math.Nat.{mod-eq_of_lt}

visible_opening : (now before : ℕ) (rows : List Row) → before + length rows ≤ now → visible now (opening_slots before rows) ≡ opening_table before rows
visible_opening now before [] h = refl
visible_opening now before (row ∷ rows) h = rw (le-leb (suc before) now (omega arith), visible_opening now (suc before) rows (omega arith)) refl

-- empty slots give nothing, and what holds of one client holds of all that are alike
none_of : {X Y : Type 0} (f : X → Option Y) (x : X) (n : ℕ) → f x ≡ None → filter_map f (replicate n x) ≡ []
none_of f x zero e = refl
none_of f x (suc n) e = rw e (none_of f x n e)

all_of : {X : Type 0} (P : X → Type 0) (x : X) (n : ℕ) → P x → AllByRecursion P (replicate n x)
all_of P x zero p = tt
all_of P x (suc n) p = (p, all_of P x n p)

ids_above : (low before : ℕ) (rows : List Row) → low ≤ before → AllByRecursion (λ line. low < line.id) (opening_table before rows)
ids_above low before [] h = tt
ids_above low before (row ∷ rows) h = (omega arith, ids_above low (suc before) rows (omega arith))

opening_ordered : (before : ℕ) (rows : List Row) → IsOrdered (opening_table before rows)
opening_ordered before [] = tt
opening_ordered before (row ∷ rows) = (ids_above (suc before) (suc before) rows (omega arith), opening_ordered (suc before) rows)

opening_clients : (slots : List (Option Version)) (now n : ℕ) → AllZip (StandsForClient slots now) (replicate n (record { calls = 0; at_begin = None })) (idle_clients n)
opening_clients slots now zero = tt
opening_clients slots now (suc n) = (record { calls = refl; at_begin = tt }, opening_clients slots now n)

keys_above : (id made before : ℕ) (rows : List Row) → id ≤ before → holds_key (slot_keys (opening_slots before rows)) (record { id = id; made = made }) ≡ false
keys_above id made before [] h = refl
keys_above id made before (row ∷ rows) h = grind (arith, keys_above id made (suc before) rows (omega arith))

opening_separate : (before : ℕ) (rows : List Row) → AreDifferent (slot_keys (opening_slots before rows))
opening_separate before [] = tt
opening_separate before (row ∷ rows) = (keys_above (suc before) (suc before) (suc before) rows (omega arith), opening_separate (suc before) rows)

opening_within : (next now before : ℕ) (rows : List Row) (rest : List (Option Version)) → before + length rows ≤ now → now < next → AllByRecursion (IsWithin next now) rest → AllByRecursion (IsWithin next now) (opening_slots before rows ++ rest)
opening_within next now before [] rest h l r = r
opening_within next now before (row ∷ rows) rest h l r = ((omega arith, omega arith, tt), opening_within next now (suc before) rows rest (omega arith) l r)

-- the opening slots, and empty ones behind them
pub opening_stands : (clients empty : ℕ) (rows : List Row) → StandsFor
    (record { slots = opening_slots 0 rows ++ replicate empty None; stamp = length rows; next_id = length rows + 1; callers = replicate clients (record { calls = 0; at_begin = None }) })
    (opening clients rows)
opening_stands clients empty rows = record {
  stamp = refl;
  next_id = refl;
  table = record {
    lines = subst (λ l. IsPermutation l (opening_table 0 rows)) (sym shows) (IsPermutation-refl _);
    ordered = opening_ordered 0 rows;
  };
  clients = opening_clients _ (length rows) clients;
  separate = subst AreDifferent (sym different) (opening_separate 0 rows);
  within = opening_within (length rows + 1) (length rows) 0 rows (replicate empty None) (omega arith) (omega arith) (all_of (IsWithin (length rows + 1) (length rows)) None empty tt);
}
  where
    shows : visible (length rows) (opening_slots 0 rows ++ replicate empty None) ≡ opening_table 0 rows
    shows = filter_map-append (seen (length rows)) (opening_slots 0 rows) (replicate empty None)
        ∙ ap₂ ◌++◌ (visible_opening (length rows) 0 rows (omega arith)) (none_of (seen (length rows)) None empty refl)
        ∙ append-nil (opening_table 0 rows)

    different : slot_keys (opening_slots 0 rows ++ replicate empty None) ≡ slot_keys (opening_slots 0 rows)
    different = filter_map-append slot_key (opening_slots 0 rows) (replicate empty None) ∙ ap (λ l. slot_keys (opening_slots 0 rows) ++ l) (none_of slot_key None empty refl) ∙ append-nil _

pub length-opening_slots : (before : ℕ) (rows : List Row) → length (opening_slots before rows) ≡ length rows
length-opening_slots before [] = refl
length-opening_slots before (row ∷ rows) = ap suc (length-opening_slots (suc before) rows)

-- a store as it is opened, from the lists that its parts are
pub opened_stands : (clients capacity : ℕ) (rows : List Row) (contents : Contents) → length rows ≤ capacity → contents.slots ≡ opening_slots 0 rows ++ replicate (capacity - length rows) None → contents.stamp ≡ length rows → contents.next_id ≡ length rows + 1
    → contents.callers ≡ replicate clients (record { calls = 0; at_begin = None }) → StandsFor contents (opening clients rows) × (length contents.slots ≡ capacity)
opened_stands clients capacity rows contents few slots stamp next_id callers = (
  subst (λ s. StandsFor s (opening clients rows)) (λ i. record { slots = sym slots i; stamp = sym stamp i; next_id = sym next_id i; callers = sym callers i }) (opening_stands clients (capacity - length rows) rows),
  (let a = ap length slots in
      let b = length-append (opening_slots 0 rows) (replicate (capacity - length rows) None) in
      let d = length-opening_slots 0 rows in
      let e = length-replicate {A = Option Version} (capacity - length rows) None in
      omega arith),
)

pub opened_kept : (clients capacity : ℕ) (rows : List Row) (contents : Contents) → length rows ≤ capacity → capacity ≤ 65536 → clients ≤ 8 → contents.slots ≡ opening_slots 0 rows ++ replicate (capacity - length rows) None → contents.stamp ≡ length rows → contents.next_id ≡ length rows + 1
    → contents.callers ≡ replicate clients (record { calls = 0; at_begin = None }) → IsKept contents
opened_kept clients capacity rows contents few fits eight slots stamp next_id callers = grind (arith, opened_stands clients capacity rows contents few slots stamp next_id callers, length-replicate, all_of (λ (caller : Caller). caller.calls ≤ 2 ^ 56) (record { calls = 0; at_begin = None }) clients (omega arith))

pub opening_links : (capacity rows : ℕ) (ids : List (Option ℕ)) (links : List ℕ) → capacity ≤ 65536 → rows ≤ capacity → AreOpening capacity rows ids → length links ≡ capacity + capacity
    → ((n : ℕ) → n < capacity → get_or links n 0 ≡ capacity) → ((home : ℕ) → home < capacity → get_or links (capacity + home) 0 ≡ opening_link capacity rows home) → AreLinks capacity ids links
opening_links capacity rows ids links few less h long ends firsts = grind (arith, mod-eq_of_lt)

-- The ids of the opening rows.
none_there : (stamp empty place : ℕ) → id_at (ids_of stamp (replicate empty None)) place ≡ None
none_there stamp (suc empty) (suc place) = none_there stamp empty place
none_there stamp empty place = grind (arith)

id_there : (stamp before empty : ℕ) (rows : List Row) (place : ℕ) → before + length rows ≤ stamp
    → id_at (ids_of stamp (opening_slots before rows ++ replicate empty None)) place ≡ cond (nat_lt place (length rows)) (Some (before + place + 1)) None
id_there stamp before empty [] place early = grind (arith, none_there stamp empty place)
id_there stamp before empty (row ∷ rows) (suc place) early = grind (arith, id_there stamp (suc before) empty rows place (omega arith))
id_there stamp before empty rows place early = grind (arith)

pub opening_is : (capacity stamp : ℕ) (rows : List Row) (slots : List (Option Version)) → length rows ≤ capacity → stamp ≡ length rows
    → slots ≡ opening_slots 0 rows ++ replicate (capacity - length rows) None → AreOpening capacity (length rows) (ids_of stamp slots)
opening_is capacity stamp rows slots few now is = grind (arith, length-map, length-append, length-replicate, length-opening_slots, id_there stamp 0 (capacity - length rows) rows)
