-- In a list in the order of a chain, how many come before an entry; and of entries group by group, how many of an entry's group are on lower levels.
use Rattle.pref_sky.proofs.Common.{◌≡◌, ℕ, suc, ◌+◌, ◌<◌, ◌≤◌, Bool, true, false, not, ◌&&◌, cond, List, length, get_or, sym, ap, arith, cases_Bool, inl, inr, leb, ltb, nat_tests, count_by, count_before, IsPermutation}
use Rattle.pref_sky.proofs.Common.{[], ◌∙◌, get_or-map, length-map, ◌-◌, sum_by-IsPermutation, Ranked, in_same_group, IsChain, IsInOrder, are_level}
use Rattle.pref_sky.proofs.AtLeastLaws.{place_passes}
use Rattle.pref_sky.proofs.ChainLaws.{earlier_chain, in_weaker_order, level_above, same_group}
use Rattle.pref_sky.proofs.ListLaws.{count_split, in_order_at, parted_by_entry}
use Rattle.pref_sky.proofs.Common.{◌∷◌, ℤ, cell, in_turn, int_lt}
use Rattle.std.proofs.lemmas.Int.{ints}
use Rattle.pref_term.proofs.KeyLaws.{key_law}
use Rattle.pref_term.specs.Preference.{low}
use Rattle.pref_sky.specs.Chains.{earlier_in}
use Rattle.pref_sky.specs.Grouped.{IsCounted, entries, stands_before, entry_at, has_earlier_group}
use Rattle.pref_sky.specs.declared.grouped.InFront.{InFront}
use Rattle.pref_sky.specs.declared.grouped.Placed.{Placed}

-- of columns the first decides where the cells differ
pub by_first_column : (col : ℕ) (columns : List ℕ) (a b : List ℤ) → earlier_in (col ∷ columns) a b ≡ in_turn (λ x y. int_lt (cell x col) (cell y col)) (earlier_in columns) a b
unfolding earlier_in
by_first_column col columns a b = grind (arith, ints, key_law (low col) false a b)

module _ {E : Type 0} (before : E → E → Bool) (chain : IsChain before) (xs : List E) (ordered : IsInOrder (λ a b. not (before b a)) xs) where
  place_comes : (place i : ℕ) (d : E) → i < length xs → place < length xs → before (get_or xs i d) (get_or xs place d) ≡ ltb i (count_by (λ x. before x (get_or xs place d)) xs)
  place_comes place i d within inside = place_passes (λ x. before x (get_or xs place d)) xs (parted_by_entry before chain xs (get_or xs place d) ordered) i d within

  -- no more come before an entry than stand in front of it
  few_before : (place : ℕ) (d : E) → place < length xs → count_by (λ x. before x (get_or xs place d)) xs ≤ place
  few_before place d inside = grind (arith, nat_tests, place_comes place place d inside inside, chain.strict.irreflexive (get_or xs place d))

  -- all in front come before an entry where the one just in front does; else as many as before that one
  counted_next : (i place : ℕ) (d : E) → suc i ≡ place → place < length xs
      → count_by (λ x. before x (get_or xs place d)) xs ≡ cond (before (get_or xs i d) (get_or xs place d)) place (count_by (λ x. before x (get_or xs i d)) xs)
  counted_next i place d next inside =
      let one = get_or xs i d in
      let other = get_or xs place d in
      elim (cases_Bool (before one other)) [
        | inl comes ↦ grind (arith, nat_tests, few_before place d inside, place_comes place i d (omega arith) inside)
        | inr level ↦
            let alike : are_level before one other ≡ true = grind (arith, level, in_order_at (λ a b. not (before b a)) xs i place d ordered (omega arith) inside) in
            let same : count_by (λ x. before x one) xs ≡ count_by (λ x. before x other) xs = λ k. count_by (λ x. level_above before chain one other x alike k) xs in
            grind (arith, level, same)
      ]

groups_chain : (columns : List ℕ) → IsChain (has_earlier_group columns)
groups_chain columns = grind (arith, earlier_chain columns)

pub order_chain : (columns : List ℕ) → IsChain (stands_before columns)
order_chain columns = grind (arith, earlier_chain columns)

pub read_at : (placed : List Placed) (place : ℕ) (read : Placed) → place < length placed → read ≡ get_or placed place read → entry_at placed place ≡ read.entry.now
read_at placed place read inside is = get_or-map (λ (p : Placed). p.entry.now) placed place read (record { level = 0; id = 0; row = [] }) inside ∙ ap (λ (p : Placed). p.entry.now) (sym is)

module _ (columns : List ℕ) (placed : List Placed) (ordered : IsInOrder (λ a b. not (stands_before columns b a)) (entries placed)) where
  by_group : IsInOrder (λ a b. not (has_earlier_group columns b a)) (entries placed)
  by_group = in_weaker_order (λ a b. not (stands_before columns b a)) (λ a b. not (has_earlier_group columns b a)) (λ a b h. grind (arith, h)) (entries placed) ordered

  long : length (entries placed) ≡ length placed
  long = length-map placed (λ (p : Placed). p.entry.now)

  pub first_counted : 0 < length placed → IsCounted columns (entries placed) (entry_at placed 0) (record { group = 0; level = 0 })
  first_counted some =
      record {
        group = omega (arith, few_before (has_earlier_group columns) (groups_chain columns) (entries placed) by_group 0 (record { level = 0; id = 0; row = [] }) (omega (arith, some, long)));
        level = omega (arith, few_before (stands_before columns) (order_chain columns) (entries placed) ordered 0 (record { level = 0; id = 0; row = [] }) (omega (arith, some, long)));
      }

  -- where the group or the level of the one just in front goes on, as many as of that one, else all in front
  pub next_counted : (at : ℕ) (one this : Placed) → 0 < at → at < length placed → one ≡ get_or placed (at - 1) one → this ≡ get_or placed at this
      → (last front : InFront) → IsCounted columns (entries placed) (entry_at placed (at - 1)) last
      → front.group ≡ cond (in_same_group columns one.entry.now.row this.entry.now.row) last.group at
      → front.level ≡ cond (in_same_group columns one.entry.now.row this.entry.now.row && leb this.entry.now.level one.entry.now.level) last.level at → IsCounted columns (entries placed) (entry_at placed at) front
  next_counted at one this some inside is_one is_this last front counted group level =
      let d : Ranked = record { level = 0; id = 0; row = [] } in
      let within : at < length (entries placed) = omega (arith, inside, long) in
      let next : suc (at - 1) ≡ at = omega arith in
      let first = read_at placed (at - 1) one (omega (arith, inside)) is_one in
      let second = read_at placed at this inside is_this in
      let same = same_group columns one.entry.now.row this.entry.now.row in
      let behind = in_order_at (λ a b. not (stands_before columns b a)) (entries placed) (at - 1) at d ordered (omega arith) within in
      record {
        group = grind (arith, first, second, counted.group, group, same, behind, counted_next (has_earlier_group columns) (groups_chain columns) (entries placed) by_group (at - 1) at d next within);
        level = grind (arith, nat_tests, first, second, counted.level, level, same, behind, counted_next (stands_before columns) (order_chain columns) (entries placed) ordered (at - 1) at d next within);
      }

-- those of the group on lower levels are those in front of the level but not of the group
pub counted_in_group : (columns : List ℕ) (ranked all : List Ranked) → IsPermutation ranked all → (r : Ranked)
    → count_by (λ s. has_earlier_group columns s r) all + count_before (in_same_group columns) ranked r ≡ count_by (λ s. stands_before columns s r) all
counted_in_group columns ranked all moved r =
    let mine : Ranked → Bool = λ s. in_same_group columns s.row r.row && ltb s.level r.level in
    let each : (s : Ranked) → cond {A = ℕ} (has_earlier_group columns s r) 1 0 + cond (mine s) 1 0 ≡ cond (stands_before columns s r) 1 0 = λ s. grind (arith, same_group columns s.row r.row) in
    omega (arith, sum_by-IsPermutation (λ (s : Ranked). cond {A = ℕ} (mine s) 1 0) ranked all moved, count_split (λ s. has_earlier_group columns s r) mine (λ s. stands_before columns s r) all each)
