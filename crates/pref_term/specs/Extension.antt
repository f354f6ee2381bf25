-- A chain that extends a preference: what is better by the preference is better by the chain, which leaves no pair undecided. (this project)
use Rattle.std.specs.Prelude.{◌≡◌, Bool, false, not, ℕ, List, [], ◌∷◌, ◌++◌, map, ℤ}
use Rattle.pref_term.specs.Chains.{AreInRow, by_chain}
use Rattle.pref_term.specs.Keys.{key_for}
use Rattle.pref_term.specs.Preference.{low, Preference, scored, pareto, prior, reverse}
use Rattle.pref_term.specs.Question.{Question}
use Rattle.pref_term.specs.declared.key.Key.{Key}

-- the keys of all base terms from left to right, each turned where an odd number of converses stands before it; those of its converse where it is turned itself
abbrev pub all_keys : Preference → (turned : Bool) → List Key
all_keys (scored t) turned = key_for t turned ∷ []
all_keys (pareto p q) turned = all_keys p turned ++ all_keys q turned
all_keys (prior p q) turned = all_keys p turned ++ all_keys q turned
all_keys (reverse p) turned = all_keys p (not turned)

-- a key for each of these columns, by which rows of one group stand together
abbrev pub group_keys : List ℕ → List Key
group_keys columns = map (λ col. key_for (low col) false) columns

-- the keys of an ask: those of its groups, and behind them all of its preference
abbrev pub ask_keys : Question → List Key
ask_keys q = group_keys q.group ++ all_keys q.preference false

-- fewer keys that compare rows as these do
pub record IsShortened (keys kept : List Key) : Type 0 where
  pub in_row : AreInRow keys → AreInRow kept
  pub compares : (a b : List ℤ) → by_chain kept a b ≡ by_chain keys a b
