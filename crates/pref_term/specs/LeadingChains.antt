-- The chains that lead a preference: where their product sees a difference between two rows, it decides between them. (this project)
use Rattle.std.specs.Prelude.{◌≡◌, Bool, true, false, ◌⊎◌, ◌||◌, ℤ, List, [], ◌∷◌, ◌++◌, map, All}
use Rattle.pref_term.specs.Better.{in_same_group}
use Rattle.pref_term.specs.Chains.{AreInRow, by_chain}
use Rattle.pref_term.specs.Columns.{ReadsBelow}
use Rattle.pref_term.specs.Extension.{all_keys, ask_keys}
use Rattle.pref_term.specs.Keys.{IsNoGreater}
use Rattle.pref_term.specs.Order.{is_better, is_same, is_worse}
use Rattle.pref_term.specs.Preference.{Preference}
use Rattle.pref_term.specs.Question.{Question, over, twins}
use Rattle.pref_term.specs.Walk.{in_priority, in_product, directed}
use Rattle.pref_term.specs.declared.key.Key.{Key}
use Rattle.pref_term.specs.declared.relation.Relation.{Relation}
use Rattle.pref_term.specs.declared.relation.Relation.TheVariants.{Same}

-- by the product of these chains
abbrev pub by_product : List (List Key) → List ℤ → List ℤ → Relation
by_product [] a b = Same
by_product (chain ∷ chains) a b = in_product (by_chain chain a b) (by_product chains a b)

-- one chain after the other, as one chain
abbrev pub joined : List (List Key) → List Key
joined [] = []
joined (chain ∷ chains) = chain ++ joined chains

-- these keys before each of the chains; alone where there is none
abbrev pub each_behind : List Key → List (List Key) → List (List Key)
each_behind keys [] = keys ∷ []
each_behind keys (chain ∷ chains) = map (λ other. keys ++ other) (chain ∷ chains)

-- chains whose product is the product of both lists, and which one after the other decide as those of the first list and behind them those of the second
pub record AreBoth (xs ys all : List (List Key)) : Type 0 where
  pub in_row : All AreInRow xs → All AreInRow ys → All AreInRow all
  pub product : (a b : List ℤ) → by_product all a b ≡ in_product (by_product xs a b) (by_product ys a b)
  pub in_order : (a b : List ℤ) → by_chain (joined all) a b ≡ in_priority (by_chain (joined xs) a b) (by_chain (joined ys) a b)

-- chains that lead a preference, or its converse where it is turned: where their product sees a difference, it decides, and where they are the whole, it is all; one after the other they lead the chain of all keys. Of rows that are the same in it the better one, or the same, has no greater one of the keys; with no key they are the whole
pub record IsLedBy (p : Preference) (turned : Bool) (chains : List (List Key)) (keys : List Key) (whole : Bool) : Type 0 where
  pub in_row : ReadsBelow 16 p → All AreInRow chains
  pub keys_in_row : ReadsBelow 16 p → AreInRow keys
  pub decides : (a b : List ℤ) → in_priority (by_product chains a b) (directed turned p a b) ≡ directed turned p a b
  pub all : whole ≡ true → (a b : List ℤ) → by_product chains a b ≡ directed turned p a b
  pub in_order : (a b : List ℤ) → in_priority (by_chain (joined chains) a b) (by_chain (all_keys p turned) a b) ≡ by_chain (all_keys p turned) a b
  pub behind : (a b : List ℤ) → is_same (by_product chains a b) ≡ true → (is_better (directed turned p a b) || is_same (directed turned p a b)) ≡ true → All (IsNoGreater a b) keys
  pub alone : keys ≡ [] → whole ≡ true

-- the same of a question, within its groups; what is open is which of its rows dominates the other, or is its twin; with no key the product of the chains is all that its term says
pub record Leads (q : Question) (chains : List (List Key)) (keys : List Key) : Type 0 where
  pub in_row : All AreInRow chains
  pub keys_in_row : AreInRow keys
  pub better : (a b : List ℤ) → in_same_group q.group a b ≡ true → is_better (by_product chains a b) ≡ true → over q a b ≡ true
  pub decided : (a b : List ℤ) → over q a b ≡ true → (is_better (by_product chains a b) ≡ true) ⊎ (is_same (by_product chains a b) ≡ true)
  pub in_order : (a b : List ℤ) → in_same_group q.group a b ≡ true → is_worse (by_chain (ask_keys q) a b) ≡ false → is_worse (by_chain (joined chains) a b) ≡ false
  pub behind : (a b : List ℤ) → is_same (by_product chains a b) ≡ true → (over q a b || twins q a b) ≡ true → All (IsNoGreater a b) keys
  pub alone : keys ≡ [] → (a b : List ℤ) → by_product chains a b ≡ directed false q.preference a b
