-- No public contract cites this.
-- What a relation says of its first row that is made by scores, in a product or in a priority. (this project)
use Rattle.std.proofs.Common.{◌≡◌, ℤ, arith}
use Rattle.std.specs.Prelude.{◌&&◌, ◌||◌, int_lt}
use Rattle.std.specs.Ordering.{int_eq}
use Rattle.std.proofs.lemmas.Int.{ints}
use Rattle.pref_term.specs.Order.{is_better, is_same, is_worse}
use Rattle.pref_term.specs.Walk.{by_scores, in_product, in_priority}
use Rattle.pref_term.specs.declared.relation.Relation.{Relation}

pub scores-better : (x y : ℤ) → is_better (by_scores x y) ≡ int_lt x y
scores-better x y = grind (arith, ints)

pub scores-worse : (x y : ℤ) → is_worse (by_scores x y) ≡ int_lt y x
scores-worse x y = grind (arith, ints)

pub scores-same : (x y : ℤ) → is_same (by_scores x y) ≡ int_eq x y
scores-same x y = grind (arith, ints)

pub product-better : (r s : Relation) → is_better (in_product r s) ≡ ((is_better r && (is_better s || is_same s)) || (is_better s && (is_better r || is_same r)))
product-better r s = grind arith

pub product-same : (r s : Relation) → is_same (in_product r s) ≡ (is_same r && is_same s)
product-same r s = grind arith

pub priority-better : (r s : Relation) → is_better (in_priority r s) ≡ (is_better r || (is_same r && is_better s))
priority-better r s = grind arith

pub priority-worse : (r s : Relation) → is_worse (in_priority r s) ≡ (is_worse r || (is_same r && is_worse s))
priority-worse r s = grind arith

pub priority-same : (r s : Relation) → is_same (in_priority r s) ≡ (is_same r && is_same s)
priority-same r s = grind arith
