-- No public contract cites this.
-- Lists of at most eight in arrays of eight: what comes behind the last is always the same, so an array is known by its list.
use Rattle.std.specs.Prelude.{◌≡◌, ℕ, ◌-◌, ◌≤◌, List, ◌++◌, take, length, replicate, true}
use Rattle.pref_core.specs.declared.changes.Change.{Change}
use Rattle.pref_core.specs.declared.changes.Change.TheVariants.{Remove}
use Rattle.pref_core.specs.Changes.{is_commit}

-- the first ones are a commit, and removes of no row follow
pub record IsFilled (changes : List Change) (count : ℕ) : Type 0 where
  pub commit : is_commit (take count changes) ≡ true
  pub counted : length (take count changes) ≡ count
  pub blank : take count changes ++ replicate (8 - length (take count changes)) (Remove 0) ≡ changes

-- the first ones are slots, and zeros follow
pub record AreFilled (slots : List ℕ) (count : ℕ) : Type 0 where
  pub few : count ≤ 8
  pub counted : length (take count slots) ≡ count
  pub blank : take count slots ++ replicate (8 - length (take count slots)) 0 ≡ slots
