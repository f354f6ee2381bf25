-- Chains that are put together, and a chain of one key.
use Rattle.pref_term.proofs.Common.{◌≡◌, arith, ℤ, List, [], ◌∷◌, ◌++◌, refl, by_chain, by_key, in_priority, Key, Relation, Same}

pub priority_same : (r : Relation) → in_priority r Same ≡ r
priority_same r = grind arith

pub priority-assoc : (r s t : Relation) → in_priority (in_priority r s) t ≡ in_priority r (in_priority s t)
priority-assoc r s t = grind arith

pub chain-append : (xs ys : List Key) (a b : List ℤ) → by_chain (xs ++ ys) a b ≡ in_priority (by_chain xs a b) (by_chain ys a b)
chain-append [] ys a b = refl
chain-append (x ∷ xs) ys a b = grind (arith, chain-append xs ys a b)

-- one key is a chain
pub one_key : (k : Key) (a b : List ℤ) → by_chain (k ∷ []) a b ≡ by_key k a b
one_key k a b = priority_same (by_key k a b)
