-- Chains: weak orders; keys and columns are such, and lists that are sorted by one.
use Rattle.pref_sky.proofs.Common.{◌≡◌, ℤ, ℕ, Bool, true, false, not, ◌&&◌, ◌||◌, List, [], ◌∷◌, sym, subst, arith, int_lt, in_same_group, suc, length, get_or, map, ◌∙◌}
use Rattle.pref_sky.proofs.Common.{by_chain, is_better, is_same, IsChain, are_level, better_in, in_turn, Bor, Ordering, ◌<◌, ◌≤◌, IsInOrder, ap}
use Rattle.pref_sky.proofs.Common.{Called, IsSortedByClosure, is_lt, always_returns_same, sorted_far, Mut}
use Rattle.std.specs.Cmp.{IsStrictWeakOrder}
use Rattle.pref_term.proofs.ExtensionLaws.{chain_back, chain_decided, group_same}
use Rattle.pref_term.specs.Extension.{group_keys}
use Rattle.pref_term.specs.Keys.{keyed}
use Rattle.pref_term.specs.Walk.{by_scores, in_priority}
use Rattle.pref_term.specs.declared.key.Key.{Key}
use Rattle.pref_term.specs.declared.relation.Relation.{Relation}
use Rattle.pref_sky.proofs.ListLaws.{from_map, place_of}
use Rattle.pref_sky.specs.Chains.{earlier_in}

-- one chain, and where that sees no difference another one
pub chain_in_turn : {E : Type 0} (f g : E → E → Bool) → IsChain f → IsChain g → IsChain (in_turn f g)
chain_in_turn f g first second = grind (arith)

-- what things are mapped to ranks them as a chain
pub mapped_chain : {E F : Type 0} (f : E → F) (before : F → F → Bool) → IsChain before → IsChain (λ a b. before (f a) (f b))
mapped_chain f before chain = grind (arith, chain)

-- two that are level compare alike with a third
pub level_above : {E : Type 0} (f : E → E → Bool) → IsChain f → (a b c : E) → are_level f a b ≡ true → f c a ≡ f c b
level_above f chain a b c level = grind (arith, level, chain.between c a b, chain.between c b a)

pub level_below : {E : Type 0} (f : E → E → Bool) → IsChain f → (a b c : E) → are_level f a b ≡ true → f a c ≡ f b c
level_below f chain a b c level = grind (arith, level, chain.between a c b, chain.between b c a)

-- ---- chains

numbers_chain : {E : Type 0} (number : E → ℤ) → IsChain (λ a b. int_lt (number a) (number b))
numbers_chain number = grind (arith)

by_first : (x y : ℤ) (r : Relation) → is_better (in_priority (by_scores x y) r) ≡ (int_lt x y || ((not (int_lt x y) && not (int_lt y x)) && is_better r))
by_first x y r = grind arith

pub keys_chain : (keys : List Key) → IsChain (better_in keys)
keys_chain [] = grind (arith)
keys_chain (key ∷ keys) =
    subst IsChain (sym (λ i a b. by_first (keyed key a) (keyed key b) (by_chain keys a b) i))
    (chain_in_turn (λ a b. int_lt (keyed key a) (keyed key b)) (better_in keys) (numbers_chain (keyed key)) (keys_chain keys))

pub earlier_chain : (columns : List ℕ) → IsChain (earlier_in columns)
unfolding earlier_in
earlier_chain columns = keys_chain (group_keys columns)

-- two are the same in a chain where neither is better, and of one group where neither is earlier
pub same_in : (keys : List Key) (a b : List ℤ) → is_same (by_chain keys a b) ≡ are_level (better_in keys) a b
same_in keys a b = grind (arith, chain_back keys a b, chain_decided keys a b)

pub same_group : (columns : List ℕ) (a b : List ℤ) → in_same_group columns a b ≡ are_level (earlier_in columns) a b
unfolding earlier_in
same_group columns a b = sym (group_same columns a b) ∙ same_in (group_keys columns) a b

-- ---- lists that are sorted by one

in_order_if_far : {E : Type 0} (before : E → E → Bool) (xs : List E) → ((i j : ℕ) (d : E) → i ≤ j → j < length xs → before (get_or xs j d) (get_or xs i d) ≡ false) → IsInOrder (λ a b. not (before b a)) xs
in_order_if_far before [] far = tt
in_order_if_far before (x ∷ xs) far = (
  λ y m. let w = place_of xs y x m in ap not (subst (λ z. before z x ≡ false) w.2 (far 0 (suc w.0) x (omega arith) (omega arith))),
  in_order_if_far before xs (λ i j d p q. far (suc i) (suc j) d (omega arith) (omega arith)),
)

-- a list in order by what it is mapped to
pub mapped_in_order : {E F : Type 0} (f : E → F) (before : F → F → Bool) (xs : List E) → IsInOrder (λ a b. before (f a) (f b)) xs → IsInOrder before (map f xs)
mapped_in_order f before [] ordered = ordered
mapped_in_order f before (x ∷ xs) ordered = ((λ y m. let w = from_map f xs y m in ap (before (f x)) w.2 ∙ ordered.0 w.0 w.1), mapped_in_order f before xs ordered.1)

-- what a sort ensures, where each call compares by a chain what two are mapped to
pub in_order_from_sort_by : {E F : Type 0} (f : E → F) (before : F → F → Bool) → IsChain before → {G : Type 0} {g : Mut G (Bor E × (Bor E × Unit {0})) Ordering} {h : G} (xs : List E) → IsSortedByClosure g h xs
    → ((a : Bor E × (Bor E × Unit {0})) (r : Ordering) (h' : G) → Called g h a r h' → (is_lt r ≡ before (f a.0.now) (f a.1.0.now)) × (h' ≡ h)) → IsInOrder (λ a b. not (before b a)) (map f xs)
in_order_from_sort_by {E = E} f before chain {g = g} {h = h} xs by called =
    let mapped : E → E → Bool = λ a b. before (f a) (f b) in
    let weak : IsStrictWeakOrder mapped = grind (arith, chain) in
    mapped_in_order f (λ a b. not (before b a)) xs (in_order_if_far mapped xs (sorted_far mapped weak xs (by mapped weak (always_returns_same g (λ a r. is_lt r ≡ mapped a.0.now a.1.0.now) h called))))

pub in_weaker_order : {E : Type 0} (before weaker : E → E → Bool) → ((a b : E) → before a b ≡ true → weaker a b ≡ true) → (xs : List E) → IsInOrder before xs → IsInOrder weaker xs
in_weaker_order before weaker then [] h = h
in_weaker_order before weaker then (e ∷ others) h = ((λ x m. then e x (h.0 x m)), in_weaker_order before weaker then others h.1)
