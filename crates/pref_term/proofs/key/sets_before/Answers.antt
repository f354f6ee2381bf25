use Rattle.pref_term.proofs.Common.{not, ◌≡◌, ◌≤◌, ℕ, ℤ, List, length, Bool, cond, nat_lt, Some, None, Option, refl, ap, ◌∙◌, arith, w64, rules, tests, to_z, of_z}
use Rattle.pref_term.proofs.Common.{unwrap_or, list_any, position_or_len, int_eq, ltb-false, to_z-of_z, sets_before}
use Rattle.std.proofs.lemmas.List.Sums.{prefix_len-le-length}
use Rattle.std.proofs.lemmas.Iterator.{YieldsList-from_slice}
use Rattle.std.proofs.lemmas.Iterator.Search.{position_from_yields_List}
use Rattle.pref_term.proofs.key.sets_before.Goals as goal

-- the first place, or the length where there is none
first_or_length : (i n : ℕ) (b : Bool) → i ≤ n → nat_lt i n ≡ b → unwrap_or (cond b (Some i) None) n ≡ i
first_or_length i n b h e = grind (arith, ltb-false i n)

pub returns : goal.returns
returns c =
    let value : to_z w64 (of_z w64 c.args.value) ≡ c.args.value = to_z-of_z w64 c.args.value (search rules) in
    let sets = c.args.sets.now in
    let test : List ℤ → Bool = λ set. list_any (int_eq (to_z w64 (of_z w64 c.args.value))) set in
    let found = position_from_yields_List test _ _ c.position.result c.position.ensures.ran (YieldsList-from_slice _ c.iter.ensures.rest) (λ x b q k. search (rules, tests)) in
    c.unwrap_or.ensures
    ∙ (ap (λ (o : Option ℕ). unwrap_or o (length sets)) found
    ∙ (first_or_length (position_or_len test sets) (length sets) _ (prefix_len-le-length (λ set. not (test set)) sets) refl
    ∙ ap (sets_before sets) value))
