-- Entries with their levels: those that have none are dropped, and where marks are in order, their entries are.
use Rattle.pref_sky.proofs.Common.{◌≡◌, ℕ, ◌<◌, ◌+◌, Bool, List, [], ◌∷◌, refl, ◌∙◌, ap, arith, length, length-map, get_or, get_or-map, get_or_default, map, filter, Entry, IsSortedBy, entry_of}
use Rattle.pref_sky.specs.Ranking.{with_level}

-- those of a mapped list that pass a test
pub filter_of_map : {E F : Type 0} (f : E → F) (p : F → Bool) (xs : List E) → filter p (map f xs) ≡ map f (filter (λ x. p (f x)) xs)
filter_of_map f p [] = refl
filter_of_map f p (x ∷ xs) = grind (arith, filter_of_map f p xs)

-- entries that were given levels
pub entries_with_level : (level : Entry → ℕ) (xs : List Entry) → map entry_of (map (with_level level) xs) ≡ xs
entries_with_level level [] = refl
entries_with_level level (x ∷ xs) = ap (λ l. x ∷ l) (entries_with_level level xs)

-- what stands at a place
pub stands_there : {E : Type 0} (xs : List E) (i : ℕ) → i < length xs → (x : E) × (x ≡ get_or xs i x)
stands_there [] i inside = absurd (omega (arith, inside))
stands_there (y ∷ ys) i inside = let x = get_or (y ∷ ys) i y in (x, get_or_default (y ∷ ys) i y x inside)

-- a list is sorted by what it is mapped to
pub sorted_map : {E F : Type 0} (f : E → F) (before : F → F → Bool) (xs : List E) → IsSortedBy (λ a b. before (f a) (f b)) xs → IsSortedBy before (map f xs)
sorted_map f before xs sorted k d from to =
    let next : k + 1 < length xs = omega (arith, to, length-map xs f) in
    let here : k < length xs = omega (arith, next) in
    let none = (stands_there xs k here).0 in
    ap (λ r. before r (get_or (map f xs) k d)) (get_or-map f xs (k + 1) none d next) ∙ (ap (before (f (get_or xs (k + 1) none))) (get_or-map f xs k none d here) ∙ sorted k none from next)
