-- The chain of all keys of a question extends its order: what dominates is better by the chain, and rows are the same by it just where they are of one group and the same.
use Rattle.pref_term.proofs.Common.{◌≡◌, arith, ◌<◌, ℕ, ℤ, Bool, true, false, not, List, [], ◌∷◌, ◌++◌, refl, sym, ap, subst, ◌∙◌, ◌&&◌, ints, int_eq, order_of, order_of_alike}
use Rattle.pref_term.proofs.Common.{All, All-append, All-cons, All-contains, All-nil, in_same_group, by_chain, AreInRow, by_key, key_for, opposed, is_better, is_same, low}
use Rattle.pref_term.proofs.Common.{Preference, scored, pareto, prior, reverse, Question, IsAsk, alike, ReadsBelow, order_of_twins_are_alike, by_scores, in_priority, in_product, Key, Relation}
use Rattle.std.proofs.lemmas.List.Elements.{All-map, All-pop, All-push}
use Rattle.std.specs.Prelude.{Contains, Some}
use Rattle.pref_term.specs.Extension.{IsShortened, all_keys, ask_keys, group_keys}
use Rattle.pref_term.specs.Keys.{keyed}
use Rattle.pref_term.specs.Order.{StandAlike, is_worse}
use Rattle.pref_term.specs.RelationLaws.{priority-same, scores-better, scores-same, scores-worse}
use Rattle.pref_term.specs.Walk.{directed, is_neither}
use Rattle.pref_term.proofs.ChainLaws.{chain-append, one_key}
use Rattle.pref_term.proofs.KeyLaws.{directed_priority, directed_product, directed_reverse, key_column, key_law}
use Rattle.pref_term.proofs.WalkLaws.{walked_better, walked_same}

-- ---- a chain in the other direction

scores_decided : (x y : ℤ) → is_neither (by_scores x y) ≡ false
scores_decided x y = grind (arith, ints)

pub chain_back : (keys : List Key) (a b : List ℤ) → is_worse (by_chain keys a b) ≡ is_better (by_chain keys b a)
chain_back [] a b = refl
chain_back (key ∷ keys) a b = grind (arith, ints, scores-better, scores-same, scores-worse, chain_back keys a b)

pub chain_decided : (keys : List Key) (a b : List ℤ) → is_neither (by_chain keys a b) ≡ false
chain_decided [] a b = refl
chain_decided (key ∷ keys) a b = grind (arith, scores_decided (keyed key a) (keyed key b), chain_decided keys a b)

-- ---- a preference, or its converse

-- what is better by the second is better by the first, and the same are the same
pub record Extends (c r : Relation) : Type 0 where
  pub same : is_same c ≡ is_same r
  pub better : is_better r ≡ true → is_better c ≡ true

product_extended : (r s c d : Relation) → Extends c r → Extends d s → Extends (in_priority c d) (in_product r s)
product_extended r s c d h k = record { same = grind (arith, h.same, k.same); better = λ e. grind (arith, h.same, h.better, k.better) }

priority_extended : (r s c d : Relation) → Extends c r → Extends d s → Extends (in_priority c d) (in_priority r s)
priority_extended r s c d h k = record { same = grind (arith, h.same, k.same); better = λ e. grind (arith, h.same, h.better, k.better) }

pub all_extend : (p : Preference) (s : Bool) (a b : List ℤ) → Extends (by_chain (all_keys p s) a b) (directed s p a b)
all_extend (scored t) s a b = grind (arith, one_key, key_law)
all_extend (pareto p q) s a b = grind (arith, directed_product, chain-append, product_extended, all_extend p s a b, all_extend q s a b)
all_extend (prior p q) s a b = grind (arith, directed_priority, chain-append, priority_extended, all_extend p s a b, all_extend q s a b)
all_extend (reverse p) s a b = subst (Extends (by_chain (all_keys p (not s)) a b)) (directed_reverse s p a b) (all_extend p (not s) a b)

-- they read its columns
pub all_in_row : (p : Preference) (turned : Bool) → ReadsBelow 16 p → AreInRow (all_keys p turned)
all_in_row (scored t) s h = All-cons (λ key. key.col < 16) (key_for t s) [] (subst (λ n. n < 16) (sym (key_column t s)) h) (All-nil (λ key. key.col < 16))
all_in_row (pareto p q) s h = All-append (λ key. key.col < 16) (all_keys p s) (all_keys q s) (all_in_row p s h.0) (all_in_row q s h.1)
all_in_row (prior p q) s h = All-append (λ key. key.col < 16) (all_keys p s) (all_keys q s) (all_in_row p s h.0) (all_in_row q s h.1)
all_in_row (reverse p) s h = all_in_row p (not s) h

-- ---- an ask, within its groups

-- rows of one group are the same by the keys of the groups
pub group_same : (columns : List ℕ) (a b : List ℤ) → is_same (by_chain (group_keys columns) a b) ≡ in_same_group columns a b
group_same [] a b = refl
group_same (col ∷ columns) a b = grind (arith, ints, priority-same, key_law, scores-same, group_same columns a b)

pub ask_same : (q : Question) (a b : List ℤ) → is_same (by_chain (ask_keys q) a b) ≡ alike q a b
ask_same q a b = grind (arith, chain-append, priority-same, group_same, all_extend, walked_same)

pub ask_extended : (q : Question) (a b : List ℤ) → (order_of q).over a b ≡ true → is_better (by_chain (ask_keys q) a b) ≡ true
ask_extended q a b h = let all = all_extend q.preference false a b in grind (arith, h, all.better, walked_better q.preference a b, chain-append, group_same q.group a b)

pub ask_back : (q : Question) (a b : List ℤ) → (order_of q).over b a ≡ true → is_worse (by_chain (ask_keys q) a b) ≡ true
ask_back q a b h = chain_back (ask_keys q) a b ∙ ask_extended q b a h

-- so they are alike in its order
pub ask_alike : (q : Question) (a b : List ℤ) → is_same (by_chain (ask_keys q) a b) ≡ true → StandAlike (order_of q).over a b
ask_alike q a b h = order_of_alike q a b (sym (ask_same q a b) ∙ h)

pub ask_twins : (q : Question) → IsAsk q → (a b : List ℤ) → (order_of q).twin a b ≡ (q.distinct && is_same (by_chain (ask_keys q) a b))
ask_twins q known a b = order_of_twins_are_alike q known a b ∙ ap (λ r. q.distinct && r) (sym (ask_same q a b))

pub ask_in_row : (q : Question) → IsAsk q → AreInRow (ask_keys q)
ask_in_row q known =
    All-append (λ key. key.col < 16) (group_keys q.group) (all_keys q.preference false)
    (All-map (λ key. key.col < 16) (λ col. key_for (low col) false) q.group known.columns.group) (all_in_row q.preference false known.columns.preference)

-- ---- keys that stand twice

same_opposed : (s : Bool) (x y : ℤ) → is_same (by_scores (opposed s x) (opposed s y)) ≡ int_eq x y
same_opposed s x y = grind (arith, ints)

-- rows are the same in keys of one column and score, whichever way these are turned
pub same_either_way : (k j : Key) (a b : List ℤ) → k.col ≡ j.col → k.score ≡ j.score → is_same (by_key k a b) ≡ is_same (by_key j a b)
same_either_way k j a b e h = grind (arith, same_opposed)

-- rows that are the same in a chain are the same in each of its keys
same_in_each : (xs : List Key) (a b : List ℤ) → is_same (by_chain xs a b) ≡ true → All (λ key. is_same (by_key key a b) ≡ true) xs
same_in_each [] a b h = All-nil (λ key. is_same (by_key key a b) ≡ true)
same_in_each (x ∷ xs) a b h = grind (arith, h, priority-same, All-cons (λ key. is_same (by_key key a b) ≡ true) x xs, same_in_each xs a b)

pub same_in_one : (keys : List Key) (key : Key) (a b : List ℤ) → Contains keys key → is_same (by_chain keys a b) ≡ true → is_same (by_key key a b) ≡ true
same_in_one keys key a b h e = All-contains (λ key. is_same (by_key key a b) ≡ true) keys key (same_in_each keys a b e) h

-- a key that sees no difference between rows that are the same in the others can be left out
pub one_repeated : (keys kept : List Key) (key : Key) → IsShortened keys kept → ((a b : List ℤ) → is_same (by_chain kept a b) ≡ true → is_same (by_key key a b) ≡ true) → IsShortened (keys ++ key ∷ []) kept
one_repeated keys kept key h same = record {
  in_row = λ all. h.in_row (All-pop (λ key. key.col < 16) (keys ++ key ∷ []) keys (Some key) refl all).0;
  compares = λ a b. grind (arith, same a b, h.compares a b, one_key key a b, chain-append keys (key ∷ []) a b);
}

pub one_new : (keys kept : List Key) (key : Key) → IsShortened keys kept → IsShortened (keys ++ key ∷ []) (kept ++ key ∷ [])
one_new keys kept key h = record {
  in_row = λ all. let parts = All-pop (λ key. key.col < 16) (keys ++ key ∷ []) keys (Some key) refl all in All-push (λ key. key.col < 16) kept key (h.in_row parts.0) parts.1;
  compares = λ a b. chain-append kept (key ∷ []) a b ∙ (ap (λ r. in_priority r (by_chain (key ∷ []) a b)) (h.compares a b) ∙ sym (chain-append keys (key ∷ []) a b));
}
