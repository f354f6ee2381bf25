-- Which columns a preference reads. (this project)
use Rattle.std.specs.Prelude.{ℕ, ◌<◌, List, [], ◌∷◌, ◌++◌}
use Rattle.pref_term.specs.Preference.{Base, low, high, around, one_of, Preference, scored, pareto, prior, reverse, between, layered}

-- the column of a base term
abbrev pub column : Base → ℕ
column (low col) = col
column (high col) = col
column (around col centre) = col
column (between col left right) = col
column (one_of col set) = col
column (layered col sets) = col

-- the columns that a preference reads, from left to right
abbrev pub columns_in : Preference → List ℕ
columns_in (scored t) = column t ∷ []
columns_in (pareto p q) = columns_in p ++ columns_in q
columns_in (prior p q) = columns_in p ++ columns_in q
columns_in (reverse p) = columns_in p

-- each column of the preference is below this number
abbrev pub ReadsBelow : ℕ → Preference → Type 0
ReadsBelow width (scored t) = column t < width
ReadsBelow width (pareto p q) = ReadsBelow width p × ReadsBelow width q
ReadsBelow width (prior p q) = ReadsBelow width p × ReadsBelow width q
ReadsBelow width (reverse p) = ReadsBelow width p
