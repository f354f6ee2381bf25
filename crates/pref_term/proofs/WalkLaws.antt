-- What one walk tells of both directions of a pair.
use Rattle.pref_term.proofs.Common.{◌≡◌, ℤ, List, ◌∙◌, arith, better, same, score, is_better, is_same, is_worse, Preference, scored, pareto, prior, reverse, walked}
use Rattle.pref_term.specs.OrderLaws.{same_is}
use Rattle.pref_term.specs.RelationLaws.{priority-better, priority-same, priority-worse, product-better, product-same, scores-better, scores-same, scores-worse}

pub same_back : (p : Preference) (a b : List ℤ) → same p b a ≡ same p a b
same_back p a b = grind (arith, same_is p a b, same_is p b a)

pub walked_same : (p : Preference) (a b : List ℤ) → is_same (walked p a b) ≡ same p a b
walked_same (scored t) a b = scores-same (score t a) (score t b)
walked_same (pareto p q) a b = product-same (walked p a b) (walked q a b) ∙ cc (walked_same p a b, walked_same q a b)
walked_same (prior p q) a b = priority-same (walked p a b) (walked q a b) ∙ cc (walked_same p a b, walked_same q a b)
walked_same (reverse p) a b = walked_same p b a ∙ same_back p a b

pub walked_better : (p : Preference) (a b : List ℤ) → is_better (walked p a b) ≡ better p a b
walked_better (scored t) a b = scores-better (score t a) (score t b)
walked_better (pareto p q) a b = product-better (walked p a b) (walked q a b) ∙ cc (walked_better p a b, walked_better q a b, walked_same p a b, walked_same q a b)
walked_better (prior p q) a b = priority-better (walked p a b) (walked q a b) ∙ cc (walked_better p a b, walked_better q a b, walked_same p a b)
walked_better (reverse p) a b = walked_better p b a

pub walked_worse : (p : Preference) (a b : List ℤ) → is_worse (walked p a b) ≡ better p b a
walked_worse (scored t) a b = scores-worse (score t a) (score t b)
walked_worse (pareto p q) a b = grind (arith, walked_worse p a b, walked_worse q a b, walked_same p a b, walked_same q a b, same_back p a b, same_back q a b)
walked_worse (prior p q) a b = priority-worse (walked p a b) (walked q a b) ∙ cc (walked_worse p a b, walked_worse q a b, walked_same p a b, same_back p a b)
walked_worse (reverse p) a b = walked_worse p b a
