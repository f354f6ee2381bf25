-- Of two rows of which the first is over the second, or its twin, the first reaches no mark that the second does not reach.
use Rattle.std.specs.Prelude.{◌||◌}
use Rattle.pref_term.proofs.Common.{◌≡◌, ℤ, List, Bool, true, false, not, sym, ap, ◌∙◌, arith, All, int_lt}
use Rattle.pref_term.proofs.Common.{ints, All-append, All-cons, All-contains, All-nil, order_of}
use Rattle.pref_term.proofs.Common.{leading, is_better, is_same, Preference, scored, pareto, prior, reverse, Question, Suit, bits_by, is_within}
use Rattle.pref_term.proofs.Common.{signature, twins_alike, by_scores, in_priority, in_product, walked, Key, Relation}
use Rattle.pref_term.specs.RelationLaws.{priority-better, priority-same, product-better, product-same, scores-better, scores-same}
use Rattle.pref_term.specs.Walk.{directed}
use Rattle.pref_term.specs.Keys.{IsNoGreater}
use Rattle.pref_term.specs.Question.{over, twins}
use Rattle.pref_term.specs.Signatures.{IsBy}
use Rattle.pref_term.specs.declared.signature.scale.Scale.{Scale}
use Rattle.pref_term.proofs.KeyLaws.{directed_priority, directed_product, directed_reverse, key_law}
use Rattle.pref_term.proofs.SignatureWords.{Implied, implied_flat, implied_map, signed_within}
use Rattle.pref_term.proofs.WalkLaws.{walked_better, walked_same}
use Rattle.std.proofs.Common.{rules}

-- ---- rows of which the first is better, or the same

abbrev pub fits : Relation → Bool
fits r = is_better r || is_same r

product_fits : (r s : Relation) → fits (in_product r s) ≡ true → (fits r ≡ true) × (fits s ≡ true)
product_fits r s h = (grind (arith, product-better r s, product-same r s), grind (arith, product-better r s, product-same r s))

pub priority_fits : (r s : Relation) → fits (in_priority r s) ≡ true → fits r ≡ true
priority_fits r s h = grind (arith, priority-better r s, priority-same r s)

scores_fit : (x y : ℤ) → fits (by_scores x y) ≡ true → int_lt y x ≡ false
scores_fit x y h = grind (arith, ints, scores-better x y, scores-same x y)

pub keep : (p : Preference) (s : Bool) (a b : List ℤ) → fits (directed s p a b) ≡ true → All (IsNoGreater a b) (leading p s)
unfolding IsNoGreater
keep (scored t) s a b h = grind (arith, All-cons, IsNoGreater, scores_fit, key_law, All-nil)
keep (pareto p q) s a b h = grind (arith, h, product_fits, directed_product, All-append (IsNoGreater a b) (leading p s) (leading q s), keep p s a b, keep q s a b)
keep (prior p q) s a b h = keep p s a b (priority_fits (directed s p a b) (directed s q a b) (sym (ap fits (directed_priority s p q a b)) ∙ h))
keep (reverse p) s a b h = keep p (not s) a b (ap fits (directed_reverse s p a b) ∙ h)

-- ---- a scale

-- where the second row has no greater key by the scale, it reaches each mark that the first reaches
suiting : (keys : List Key) (scale : Scale) (a b : List ℤ) → All (IsNoGreater a b) keys → IsBy keys scale → Implied (bits_by scale a) (bits_by scale b)
unfolding IsNoGreater
suiting keys scale a b keeps by = let key = All-contains (IsNoGreater a b) keys scale.key keeps by.key in grind (arith, implied_map, ints, key)

-- ---- the law

-- rows that are in the order of some keys are so by their signatures, if the scales are by these keys
pub signed_by_keys : (keys : List Key) (scales : List Scale) (a b : List ℤ) → All (IsNoGreater a b) keys → All (IsBy keys) scales → is_within (signature scales a) (signature scales b) ≡ true
signed_by_keys keys scales a b kept by = search (rules, signed_within, implied_flat, suiting)

-- a row that dominates another, or is its twin, is better, or the same
pub fits_asked : (q : Question) (a b : List ℤ) → (over q a b || twins q a b) ≡ true → fits (walked q.preference a b) ≡ true
fits_asked q a b h = grind (arith, walked_better q.preference a b, twins_alike q a b, walked_same q.preference a b)

-- scales by keys that lead an ask's preference suit its order
pub suiting_cuts : (q : Question) (scales : List Scale) → All (IsBy (leading q.preference false)) scales → Suit (order_of q) scales
suiting_cuts q scales suit = record {
  over = λ a b h. within a b (grind (arith, walked_better q.preference a b));
  twin = λ a b h. let alike = twins_alike q a b h in within a b (grind (arith, walked_same q.preference a b));
}
  where
    within : (a b : List ℤ) → fits (walked q.preference a b) ≡ true → is_within (signature scales a) (signature scales b) ≡ true
    within a b h = signed_by_keys (leading q.preference false) scales a b (keep q.preference false a b h) suit
