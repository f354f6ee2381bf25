-- Rows that are numbered as they come: their ids differ, and what holds the best of some rows holds the best of these and more once those are added.
use Rattle.pref_sky.proofs.Common.{◌≡◌, ◌+◌, ◌≤◌, ◌++◌, ◌∷◌, ℕ, suc, List, [], ap, arith, subst, map, length, eqb, cond, count_by, ltb}
use Rattle.pref_sky.proofs.Common.{nat_tests, order_of, Row, Question, cut_of, Entry, HaveDifferentIds, entry_of, entry_order}
use Rattle.pref_sky.proofs.LevelLaws.{held_differ}
use Rattle.pref_sky.proofs.ListLaws.{count_cons}
use Rattle.pref_sky.specs.NumberedRows.{best_of, numbered, numbered_from}

-- rows behind others are numbered on from these
pub numbered_append : (last n : ℕ) (xs ys : List Row) → n ≡ last + length xs → numbered_from last (xs ++ ys) ≡ numbered_from last xs ++ numbered_from n ys
numbered_append last n [] ys on = ap (λ k. numbered_from k ys) (omega (arith))
numbered_append last n (x ∷ xs) ys on = ap (λ l. record { id = suc last; row = x } ∷ l) (numbered_append (suc last) n xs ys (omega (arith)))

-- one row more has the next id
pub numbered_more : (last : ℕ) (rows : List Row) (row : Row) → numbered_from last (rows ++ row ∷ []) ≡ numbered_from last rows ++ record { id = last + length rows + 1; row = row } ∷ []
numbered_more last rows row = grind (arith, numbered_append last (last + length rows) rows (row ∷ []))

-- an id stands there once at most, and not at all up to the last one
ids_once : (last id : ℕ) (rows : List Row) → count_by (λ (e : Entry). eqb e.id id) (numbered_from last rows) ≤ cond (ltb last id) 1 0
ids_once last id [] = omega arith
ids_once last id (row ∷ rows) = grind (arith, nat_tests, count_cons (λ (e : Entry). eqb e.id id) (record { id = suc last; row = row }) (numbered_from (suc last) rows), ids_once (suc last) id rows)

pub numbered_differ : (last : ℕ) (rows : List Row) → HaveDifferentIds (numbered_from last rows)
numbered_differ last rows = record { once = λ id. grind (arith, nat_tests, ids_once last id rows) }

-- the rows before and the new ones, as entries
pub numbered_before : (before rows : List Row) → numbered (before ++ rows) ≡ numbered before ++ numbered_from (length before) rows
numbered_before before rows = numbered_append 0 (length before) before rows (omega (arith))

pub all_differ : (before rows : List Row) → HaveDifferentIds (numbered before ++ numbered_from (length before) rows)
all_differ before rows = subst HaveDifferentIds (numbered_before before rows) (numbered_differ 0 (before ++ rows))

-- new rows have other ids than what is held
pub new_differ : (q : Question) (before rows : List Row) → HaveDifferentIds (map entry_of (best_of q before).held ++ numbered_from (length before) rows)
new_differ q before rows = held_differ (entry_order (order_of q)) (numbered before) (numbered_from (length before) rows) (cut_of q.mode) (all_differ before rows)
