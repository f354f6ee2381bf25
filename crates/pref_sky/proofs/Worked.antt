-- Worked examples: the definitions compute.
use Rattle.pref_sky.proofs.Common.{false, true, ◌≡◌, ℕ, List, [], ◌∷◌, map, refl, pos, Question, Best, TopLevel, AtLeast, Entry, Ranked, answer_of}
use Rattle.pref_term.specs.Preference.{Preference, low, scored, pareto, prior}
use Rattle.pref_term.specs.declared.ask.Mode.{Mode}

abbrev entry : ℕ → List ℕ → Entry
entry id cells = record { id = id; row = map pos cells }

-- (level, id)
abbrev places : List Ranked → List (ℕ × ℕ)
places ranked = map (λ r. (r.level, r.id)) ranked

abbrev ask_for : Mode → Preference → List ℕ → Question
ask_for mode preference group = record { preference = preference; group = group; mode = mode; distinct = false }

-- five hotels by price and distance: the first three are best
abbrev hotels : List Entry
hotels =
    entry 1 (50 ∷ 8 ∷ []) ∷ entry 2 (60 ∷ 5 ∷ []) ∷ entry 3 (80 ∷ 2 ∷ []) ∷ entry 4 (70 ∷ 6 ∷ []) ∷ entry 5 (90 ∷ 2 ∷ []) ∷ []

pub best_hotels : places (answer_of (ask_for Best (pareto (scored (low 0)) (scored (low 1))) []) hotels) ≡ (1, 1) ∷ (1, 2) ∷ (1, 3) ∷ []
best_hotels = refl

-- first the x, then the y and the z together
abbrev cubes : List Entry
cubes = entry 1 (1 ∷ 5 ∷ 5 ∷ []) ∷ entry 2 (1 ∷ 4 ∷ 6 ∷ []) ∷ entry 3 (0 ∷ 9 ∷ 9 ∷ []) ∷ []

pub two_levels_of_cubes : places (answer_of (ask_for (TopLevel 2) (prior (scored (low 0)) (pareto (scored (low 1)) (scored (low 2)))) []) cubes) ≡ (1, 3) ∷ (2, 1) ∷ (2, 2) ∷ []
two_levels_of_cubes = refl

-- at least two of each group: in the second group there is one
abbrev grouped : List Entry
grouped = entry 1 (1 ∷ 1 ∷ []) ∷ entry 2 (2 ∷ 1 ∷ []) ∷ entry 3 (2 ∷ 1 ∷ []) ∷ entry 4 (9 ∷ 2 ∷ []) ∷ []

pub at_least_two_by_group : places (answer_of (ask_for (AtLeast 2) (scored (low 0)) (1 ∷ [])) grouped) ≡ (1, 1) ∷ (1, 4) ∷ (2, 2) ∷ (2, 3) ∷ []
at_least_two_by_group = refl

-- the cheapest rows of each city, and all of them where they are equal
abbrev cities : List Entry
cities = entry 1 (10 ∷ 1 ∷ []) ∷ entry 2 (20 ∷ 1 ∷ []) ∷ entry 3 (30 ∷ 2 ∷ []) ∷ entry 4 (30 ∷ 2 ∷ []) ∷ []

pub best_by_city : places (answer_of (ask_for Best (scored (low 0)) (1 ∷ [])) cities) ≡ (1, 1) ∷ (1, 3) ∷ (1, 4) ∷ []
best_by_city = refl

-- of rows that are equal in the columns of a clause the one with the smallest id alone is best
abbrev distinct_cheapest_by_city : Question
distinct_cheapest_by_city = record { preference = scored (low 0); group = 1 ∷ []; mode = Best; distinct = true }

abbrev offers : List Entry
offers =
    entry 1 (10 ∷ 1 ∷ 5 ∷ []) ∷ entry 2 (20 ∷ 1 ∷ 0 ∷ []) ∷ entry 3 (10 ∷ 1 ∷ 7 ∷ []) ∷ entry 4 (30 ∷ 2 ∷ 1 ∷ []) ∷ entry 5 (30 ∷ 2 ∷ 2 ∷ []) ∷ []

pub distinct_offers : places (answer_of distinct_cheapest_by_city offers) ≡ (1, 1) ∷ (1, 4) ∷ []
distinct_offers = refl
