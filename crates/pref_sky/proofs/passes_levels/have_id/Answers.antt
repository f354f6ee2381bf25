use Rattle.pref_sky.proofs.Common.{rules, ◌≡◌, ◌==◌, ℕ, ◌≤◌, List, [], Result, Ok, Err, is_ok, length, sym, ◌∙◌, arith, list_any, get_or, Entry, IsNonDecreasingBy, always_returns_same, nat_cmp}
use Rattle.std.proofs.Common.{tests}
use Rattle.std.specs.Ordering.{ordering_index}
use Rattle.std.specs.List.Sorted.{IsBinarySearchResult, IsSearchInRange}
use Rattle.std.proofs.lemmas.List.Folds.{list_any_at}
use Rattle.pref_sky.proofs.ListLaws.{any_none, place_of}
use Rattle.pref_sky.proofs.passes_levels.have_id.Goals as goal

rises_still : (a b id : ℕ) → a ≤ b → ordering_index (nat_cmp a id) ≤ ordering_index (nat_cmp b id)
rises_still a b id le = grind (arith, tests)

-- what a search by halves finds
found : (xs : List Entry) (id : ℕ) (r : Result ℕ ℕ) → IsSearchInRange r (length xs) → IsBinarySearchResult (λ (y : Entry). nat_cmp y.id id) xs r → IsNonDecreasingBy (λ (e : Entry). e.id) xs → is_ok r ≡ list_any (λ (e : Entry). e.id == id) xs
found xs id (Ok i) inside is rises = let none : Entry = record { id = 0; row = [] } in sym (list_any_at (λ (e : Entry). e.id == id) xs i none inside (grind (arith, tests, is none)))
found xs id (Err i) inside is rises =
    let point = is (λ a b d le within. rises_still (get_or xs a d).id (get_or xs b d).id id (rises a b d le within)) in
    sym (any_none (λ (e : Entry). e.id == id) xs (λ x m. let w = place_of xs x x m in grind (arith, tests, point.0 w.0 x, point.1 w.0 x)))

pub returns : goal.returns
returns c rises =
    let searched = c.binary_search_by_key.ensures in
    c.is_ok.ensures.value ∙ found c.args.entries.now c.args.id c.binary_search_by_key.result searched.bound (searched.position (λ (e : Entry). e.id) (always_returns_same _ (λ a r. r ≡ a.0.now.id) _ (λ a r q k. search rules))) rises
