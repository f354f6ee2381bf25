-- No public contract cites this.
-- One walk over a preference, which answers both directions of a pair at once. (this project)
use Rattle.std.specs.Prelude.{ℤ, int_lt, Bool, true, false, List, if◌then◌else◌}
use Rattle.pref_term.specs.Better.{score}
use Rattle.pref_term.specs.Preference.{Preference, scored, pareto, prior, reverse}
use Rattle.pref_term.specs.declared.relation.Relation.{Relation}
use Rattle.pref_term.specs.declared.relation.Relation.TheVariants.{Better, Worse, Same, Neither}

-- the smaller score is better
abbrev pub by_scores : ℤ → ℤ → Relation
by_scores x y = if int_lt x y then Better else if int_lt y x then Worse else Same

-- from whether the first row is better in some part, and whether the second is
abbrev pub by_sides : Bool → Bool → Relation
by_sides true false = Better
by_sides false true = Worse
by_sides false false = Same
by_sides true true = Neither

-- by a product, from what its parts say
abbrev pub in_product : Relation → Relation → Relation
in_product Same second = second
in_product Better Better = Better
in_product Better Same = Better
in_product Better Worse = Neither
in_product Better Neither = Neither
in_product Worse Worse = Worse
in_product Worse Same = Worse
in_product Worse Better = Neither
in_product Worse Neither = Neither
in_product Neither second = Neither

-- whether neither row is better, and they don't score alike
abbrev pub is_neither : Relation → Bool
is_neither Neither = true
is_neither relation = false

-- by a priority
abbrev pub in_priority : Relation → Relation → Relation
in_priority Same second = second
in_priority Better second = Better
in_priority Worse second = Worse
in_priority Neither second = Neither

abbrev pub walked : Preference → List ℤ → List ℤ → Relation
walked (scored t) a b = by_scores (score t a) (score t b)
walked (pareto p q) a b = in_product (walked p a b) (walked q a b)
walked (prior p q) a b = in_priority (walked p a b) (walked q a b)
walked (reverse p) a b = walked p b a

-- how a preference compares two rows, or its converse where it is turned
abbrev pub directed : (turned : Bool) → Preference → List ℤ → List ℤ → Relation
directed false p a b = walked p a b
directed true p a b = walked p b a
