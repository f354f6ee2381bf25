-- Where the product of the chains that lead a preference sees a difference, it decides; and these chains, one after the other, lead the chain of all keys.
use Rattle.pref_term.proofs.Common.{◌≡◌, arith, ◌<◌, ℕ, zero, suc, get_or, ℤ, Bool, true, false, not, List, [], ◌∷◌, ◌++◌, refl, sym, ap, ◌∙◌, ◌⊎◌, length, length-append, and_from, and_parts, false≢true}
use Rattle.pref_term.proofs.Common.{All, All-append, All-nil, AreInRow, ReadsBelow, by_chain, is_chain, is_better, is_same, is_worse}
use Rattle.pref_term.proofs.Common.{Preference, scored, pareto, prior, reverse, Question, IsAsk, in_priority, in_product, Key, Relation}
use Rattle.std.proofs.lemmas.List.Elements.{All-map, All-weaker, All-pop, All-push}
use Rattle.std.specs.Prelude.{◌≤◌, Contains, Some, filter}
use Rattle.pref_term.specs.Extension.{all_keys}
use Rattle.pref_term.specs.Keys.{IsNoGreater, leading}
use Rattle.pref_term.specs.LeadingChains.{AreBoth, IsLedBy, Leads, by_product, each_behind, joined}
use Rattle.pref_term.specs.RelationLaws.{priority-same, product-same}
use Rattle.pref_term.specs.Walk.{directed}
use Rattle.pref_term.proofs.ChainLaws.{chain-append, one_key, priority-assoc, priority_same}
use Rattle.pref_term.proofs.ExtensionLaws.{all_extend, all_in_row, group_same}
use Rattle.pref_term.proofs.KeyLaws.{leading_in_row, directed_priority, directed_product, directed_reverse, key_law, product-assoc, product_same}
use Rattle.pref_term.proofs.SignatureLaws.{fits, fits_asked, keep, priority_fits}
use Rattle.pref_term.proofs.WalkLaws.{walked_better}

-- the second relation is the first wherever this sees a difference
abbrev Decides : Relation → Relation → Type 0
Decides r s = in_priority r s ≡ s

-- ---- relations

itself_decides : (r s : Relation) → r ≡ s → Decides r s
itself_decides r s h = grind (arith, h)

product_behind : (r s t : Relation) → in_product (in_priority r s) (in_priority r t) ≡ in_priority r (in_product s t)
product_behind r s t = grind arith

asked_again : (r s t : Relation) → in_priority (in_priority r s) (in_priority r t) ≡ in_priority r (in_priority s t)
asked_again r s t = grind arith

first_decides : (r s t : Relation) → Decides r s → Decides r (in_priority s t)
first_decides r s t h = grind (arith, h)

behind_decides : (r s t : Relation) → Decides s t → Decides (in_priority r s) (in_priority r t)
behind_decides r s t h = asked_again r s t ∙ ap (in_priority r) h

both_decide : (r s t u : Relation) → Decides r t → is_same r ≡ is_same t → Decides s u → Decides (in_priority r s) (in_priority t u)
both_decide r s t u h e k = grind (arith, h, e, k)

both_same : (r s : Relation) → is_same (in_priority r s) ≡ true → (is_same r ≡ true) × (is_same s ≡ true)
both_same r s h = (grind (arith, h), grind (arith, h))

second_fits : (r s : Relation) → is_same r ≡ true → fits (in_priority r s) ≡ true → fits s ≡ true
second_fits r s h k = grind (arith, h, k)

-- ---- lists of chains

-- rows are the same in the chains one after the other just where they are the same in their product
pub same_joined : (chains : List (List Key)) (a b : List ℤ) → is_same (by_chain (joined chains) a b) ≡ is_same (by_product chains a b)
same_joined [] a b = refl
same_joined (chain ∷ chains) a b = grind (arith, chain-append chain (joined chains) a b, same_joined chains a b, priority-same, product-same)

product_behind_chain : (keys : List Key) (chains : List (List Key)) (a b : List ℤ) → by_product (each_behind keys chains) a b ≡ in_priority (by_chain keys a b) (by_product chains a b)
product_behind_chain keys [] a b = product_same (by_chain keys a b) ∙ sym (priority_same (by_chain keys a b))
product_behind_chain keys (chain ∷ []) a b = grind (arith, product_same, chain-append keys chain a b)
product_behind_chain keys (chain ∷ next ∷ chains) a b = grind (arith, chain-append keys chain a b, product_behind_chain keys (next ∷ chains) a b, product_behind)

joined_behind_chain : (keys : List Key) (chains : List (List Key)) (a b : List ℤ) → by_chain (joined (each_behind keys chains)) a b ≡ in_priority (by_chain keys a b) (by_chain (joined chains) a b)
joined_behind_chain keys [] a b = chain-append keys [] a b
joined_behind_chain keys (chain ∷ []) a b = grind (arith, chain-append, priority_same)
joined_behind_chain keys (chain ∷ next ∷ chains) a b =
    grind (arith, chain-append (keys ++ chain) (joined (each_behind keys (next ∷ chains))) a b, chain-append keys chain a b, joined_behind_chain keys (next ∷ chains) a b, asked_again, chain-append chain (joined (next ∷ chains)) a b)

module _ (keep : List Key → Bool) (a b : List ℤ) (none : (keys : List Key) → keep keys ≡ false → is_same (by_chain keys a b) ≡ true) where
  -- chains in which two rows are the same add nothing to others
  pub product_kept : (chains : List (List Key)) → by_product (filter keep chains) a b ≡ by_product chains a b
  product_kept [] = refl
  product_kept (x ∷ xs) = grind (arith, none x, product_kept xs)

  pub joined_kept : (chains : List (List Key)) → by_chain (joined (filter keep chains)) a b ≡ by_chain (joined chains) a b
  joined_kept [] = refl
  joined_kept (x ∷ xs) = grind (arith, none x, joined_kept xs, chain-append x (joined xs) a b, chain-append x (joined (filter keep xs)) a b)

-- of three chains at most those that are not there see no difference
pub three_say : (chains : List (List Key)) (a b : List ℤ) → length chains ≤ 3
    → (by_product chains a b ≡ in_product (by_chain (get_or chains 0 []) a b) (in_product (by_chain (get_or chains 1 []) a b) (by_chain (get_or chains 2 []) a b)))
    × (by_chain (joined chains) a b ≡ in_priority (by_chain (get_or chains 0 []) a b) (in_priority (by_chain (get_or chains 1 []) a b) (by_chain (get_or chains 2 []) a b)))
three_say (x ∷ (y ∷ (z ∷ []))) a b few = grind (arith, product_same, priority_same, chain-append)
three_say (x ∷ (y ∷ (z ∷ (w ∷ others)))) a b few = absurd (omega (arith, few))
three_say chains a b few = grind (arith, priority_same, chain-append)

behind_in_row : (keys : List Key) (chains : List (List Key)) → AreInRow keys → All AreInRow chains → All AreInRow (each_behind keys chains)
behind_in_row keys [] h k = All-push AreInRow [] keys k h
behind_in_row keys (chain ∷ chains) h k = All-map AreInRow (λ other. keys ++ other) (chain ∷ chains) (All-weaker AreInRow (λ other. AreInRow (keys ++ other)) (λ other. All-append (λ key. key.col < 16) keys other h) (chain ∷ chains) k)

-- ---- the chains of two products

product-append : (xs ys : List (List Key)) (a b : List ℤ) → by_product (xs ++ ys) a b ≡ in_product (by_product xs a b) (by_product ys a b)
product-append [] ys a b = refl
product-append (x ∷ xs) ys a b = ap (in_product (by_chain x a b)) (product-append xs ys a b) ∙ sym (product-assoc (by_chain x a b) (by_product xs a b) (by_product ys a b))

joined-append : (xs ys : List (List Key)) (a b : List ℤ) → by_chain (joined (xs ++ ys)) a b ≡ in_priority (by_chain (joined xs) a b) (by_chain (joined ys) a b)
joined-append [] ys a b = refl
joined-append (x ∷ xs) ys a b = grind (arith, chain-append x (joined (xs ++ ys)) a b, joined-append xs ys a b, priority-assoc, chain-append x (joined xs) a b)

-- a chain that is one of the factors adds nothing, wherever it stands
held : (chains : List (List Key)) (chain : List Key) (i : ℕ) (a b : List ℤ) → i < length chains → get_or chains i chain ≡ chain
    → (in_product (by_product chains a b) (by_chain chain a b) ≡ by_product chains a b) × (in_priority (by_chain (joined chains) a b) (by_chain chain a b) ≡ by_chain (joined chains) a b)
held [] chain i a b lt e = absurd (omega arith)
held (x ∷ xs) chain zero a b lt e = grind (arith, e, chain-append x (joined xs) a b)
held (x ∷ xs) chain (suc i) a b lt e = grind (arith, product-assoc, priority-assoc, chain-append x (joined xs) a b, held xs chain i a b)

pub one_added : (xs ys all : List (List Key)) (y : List Key) → AreBoth xs ys all → AreBoth xs (ys ++ y ∷ []) (all ++ y ∷ [])
one_added xs ys all y h = record {
  in_row = λ k l. let parts = All-pop AreInRow (ys ++ y ∷ []) ys (Some y) refl l in All-push AreInRow all y (h.in_row k parts.0) parts.1;
  product = λ a b. grind (arith, product-append all (y ∷ []) a b, h.product a b, product-assoc, product-append ys (y ∷ []) a b);
  in_order = λ a b. grind (arith, joined-append all (y ∷ []) a b, h.in_order a b, priority-assoc, joined-append ys (y ∷ []) a b);
}

pub one_held : (xs ys all : List (List Key)) (y : List Key) → AreBoth xs ys all → Contains all y → AreBoth xs (ys ++ y ∷ []) all
one_held xs ys all y h stands =
    let more = one_added xs ys all y h in
    record {
      in_row = λ k l. h.in_row k (All-pop AreInRow (ys ++ y ∷ []) ys (Some y) refl l).0;
      product = λ a b. grind (arith, product-append all (y ∷ []) a b, product_same (by_chain y a b), held all y stands.0 a b stands.1 stands.2, more.product a b);
      in_order = λ a b. grind (arith, joined-append all (y ∷ []) a b, chain-append y [] a b, priority_same (by_chain y a b), held all y stands.0 a b stands.1 stands.2, more.in_order a b);
    }

-- ---- a preference, or its converse

-- all keys of a chain are its order
chain_is_keys : (p : Preference) (s : Bool) (a b : List ℤ) → is_chain p ≡ true → by_chain (all_keys p s) a b ≡ directed s p a b
chain_is_keys (prior p q) s a b h = grind (arith, h, chain-append, chain_is_keys p s a b, chain_is_keys q s a b, directed_priority)
chain_is_keys (reverse p) s a b h = chain_is_keys p (not s) a b h ∙ directed_reverse s p a b
chain_is_keys p s a b h = grind (arith, h, one_key, key_law)

-- a key leads it
leading_some : (p : Preference) (s : Bool) → 0 < length (leading p s)
leading_some (scored t) s = grind arith
leading_some (pareto p q) s = grind (arith, length-append (leading p s) (leading q s), leading_some p s)
leading_some (prior p q) s = leading_some p s
leading_some (reverse p) s = leading_some p (not s)

-- no chain leads it, and its leading keys are behind none
pub none_leads : (p : Preference) (s : Bool) (keys : List Key) → keys ≡ leading p s → IsLedBy p s [] keys false
none_leads p s keys is = grind (arith, All-nil, leading_in_row, false≢true, keep, leading_some p s)

-- it is led by itself
pub chain_leads : (p : Preference) (s : Bool) → is_chain p ≡ true → IsLedBy p s (all_keys p s ∷ []) [] true
chain_leads p s h = grind (arith, product_same, chain_is_keys, All-push, All-nil, all_in_row, itself_decides, chain-append, priority_same)

pub one_leads : (p : Preference) (turned : Bool) (chain keys : List Key) (chains : List (List Key)) → is_chain p ≡ true → chain ≡ all_keys p turned → chains ≡ chain ∷ [] → keys ≡ [] → IsLedBy p turned chains keys true
one_leads p turned chain keys chains h k e none = grind (arith, chain_leads)

-- the chains of both factors lead a product of chains
pub both_lead : (p q : Preference) (s : Bool) (xs ys all : List (List Key)) (keys others : List Key) → IsLedBy p s xs keys true → IsLedBy q s ys others true → AreBoth xs ys all → IsLedBy (pareto p q) s all [] true
both_lead p q s xs ys all keys others h k both = grind (arith, directed_product, All-nil, itself_decides, chain-append, both_decide, same_joined, all_extend)

-- what leads the second part of a priority leads it behind the first, where that is a chain
pub behind_leads : (p q : Preference) (s whole : Bool) (chains : List (List Key)) (keys : List Key) → is_chain p ≡ true → IsLedBy q s chains keys whole → IsLedBy (prior p q) s (each_behind (all_keys p s) chains) keys whole
behind_leads p q s whole chains keys h k = grind (arith, product_behind_chain, chain_is_keys p s, behind_in_row, all_in_row, directed_priority, behind_decides, joined_behind_chain, chain-append, both_same, second_fits)

-- else what leads the first part, where the keys do not miss what the second part decides
pub first_leads : (p q : Preference) (s whole : Bool) (chains : List (List Key)) (keys found : List Key) → IsLedBy p s chains keys whole
    → (ReadsBelow 16 (prior p q) → AreInRow found)
    → ((a b : List ℤ) → is_same (by_product chains a b) ≡ true → fits (in_priority (directed s p a b) (directed s q a b)) ≡ true → All (IsNoGreater a b) found)
    → (found ≡ [] → false ≡ true)
    → IsLedBy (prior p q) s chains found false
first_leads p q s whole chains keys found h within rest some = grind (arith, directed_priority, first_decides, chain-append)

-- chains that are the whole of the first part leave the rest to the second one
pub whole_leads : (p q : Preference) (s : Bool) (chains : List (List Key)) (keys found : List Key) → IsLedBy p s chains keys true → found ≡ leading q s → IsLedBy (prior p q) s chains found false
whole_leads p q s chains keys found h is = grind (arith, first_leads, leading_in_row, keep, second_fits, leading_some q s)

-- others keep their keys
pub part_leads : (p q : Preference) (s : Bool) (chains : List (List Key)) (keys : List Key) → IsLedBy p s chains keys false → IsLedBy (prior p q) s chains keys false
part_leads p q s chains keys h = grind (arith, first_leads, priority_fits)

-- ---- a question, within its groups

better_decides : (r s : Relation) → Decides r s → is_better r ≡ true → is_better s ≡ true
better_decides r s h k = grind (arith, h)

better_or_same : (r s : Relation) → Decides r s → is_better s ≡ true → (is_better r ≡ true) ⊎ (is_same r ≡ true)
better_or_same r s h k = grind (arith, h)

not_worse : (r s t : Relation) → is_same r ≡ true → Decides s t → is_worse (in_priority r t) ≡ false → is_worse s ≡ false
not_worse r s t h k l = grind (arith, h, k)

-- the chains that lead the preference of a question lead it
pub leading_lead : (q : Question) (chains : List (List Key)) (keys : List Key) (whole : Bool) → IsAsk q → IsLedBy q.preference false chains keys whole → Leads q chains keys
leading_lead q chains keys whole known led = grind (arith, known.columns.preference, and_from, and_parts, walked_better, better_decides, better_or_same, not_worse, group_same, chain-append, fits_asked)
