-- Chains: lists of keys of which the first that differs decides. (this project)
use Rattle.std.specs.Prelude.{◌<◌, Bool, true, false, ◌&&◌, ℤ, List, [], ◌∷◌, All}
use Rattle.pref_term.specs.Keys.{by_key}
use Rattle.pref_term.specs.Preference.{Preference, scored, pareto, prior, reverse}
use Rattle.pref_term.specs.Walk.{in_priority}
use Rattle.pref_term.specs.declared.key.Key.{Key}
use Rattle.pref_term.specs.declared.relation.Relation.{Relation}
use Rattle.pref_term.specs.declared.relation.Relation.TheVariants.{Same}

-- by the first of these keys in which the rows differ
abbrev pub by_chain : List Key → List ℤ → List ℤ → Relation
by_chain [] a b = Same
by_chain (key ∷ keys) a b = in_priority (by_key key a b) (by_chain keys a b)

-- their columns are within a row
abbrev pub AreInRow : List Key → Type 0
AreInRow keys = All (λ key. key.col < 16) keys

-- it has no product in it
abbrev pub is_chain : Preference → Bool
is_chain (scored t) = true
is_chain (pareto p q) = false
is_chain (prior p q) = is_chain p && is_chain q
is_chain (reverse p) = is_chain p
