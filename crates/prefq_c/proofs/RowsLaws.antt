-- The rows of numbers, one after the other.
use Rattle.std.proofs.Common.{arith, ◌≡◌, ◌∙◌, ℕ, zero, suc, ℤ, ◌+◌, ◌-◌, ◌<◌, ◌≤◌, List, [], ◌∷◌, ◌++◌, ap, length, take, drop, subst, sym, append_assoc}
use Rattle.std.proofs.lemmas.List.{append-nil}
use Rattle.pref_table.specs.Rows.{padded}
use Rattle.prefq_c.specs.Openings.{HaveRows, rows_in}

-- what there is of the first row
pub have_first : (width count : ℕ) (numbers : List ℤ) → 0 < count → HaveRows width count numbers → width ≤ length numbers
have_first width zero numbers some have = absurd (omega arith)
have_first width (suc count) numbers some (first, rest) = first

-- and of the rows behind the next one
pub have_rest : (width count place : ℕ) (left : List ℤ) → place < count → HaveRows width (count - place) left → HaveRows width (count - (place + 1)) (drop width left)
have_rest width count place left inside have =
    let next : count - place ≡ suc (count - (place + 1)) = omega (arith, inside) in
    let (some, rest) = subst (λ k. HaveRows width k left) next have in rest

-- the rows that are left are the next one and those behind it
pub rows_next : (width count place : ℕ) (left : List ℤ) → place < count → rows_in width (count - place) left ≡ padded (take width left) ∷ rows_in width (count - (place + 1)) (drop width left)
rows_next width count place left inside =
    let next : count - place ≡ suc (count - (place + 1)) = omega (arith, inside) in
    ap (λ k. rows_in width k left) next

-- or none
pub rows_none : (width count place : ℕ) (left : List ℤ) → count ≤ place → rows_in width (count - place) left ≡ []
rows_none width count place left none =
    let zero : count - place ≡ 0 = omega (arith, none) in
    ap (λ k. rows_in width k left) zero

-- one row more was copied
pub rows_step : (width count place : ℕ) (left rest : List ℤ) (out wrote all : List (List ℤ)) → place < count → rest ≡ drop width left
    → HaveRows width (count - place) left × (out ++ rows_in width (count - place) left ≡ all) → wrote ≡ out ++ padded (take width left) ∷ []
    → HaveRows width (count - (place + 1)) rest × (wrote ++ rows_in width (count - (place + 1)) rest ≡ all)
rows_step width count place left rest out wrote all inside behind (have, before) now =
    let next = rows_next width count place left inside in
    subst (λ r. HaveRows width (count - (place + 1)) r × (wrote ++ rows_in width (count - (place + 1)) r ≡ all)) (sym behind)
    (have_rest width count place left inside have, grind (arith, next, before, now, append_assoc))

-- and none more
pub rows_end : (width count place : ℕ) (left : List ℤ) (out all : List (List ℤ)) → count ≤ place → out ++ rows_in width (count - place) left ≡ all → out ≡ all
rows_end width count place left out all none before = sym (append-nil out) ∙ rw (rows_none width count place left none) at before
