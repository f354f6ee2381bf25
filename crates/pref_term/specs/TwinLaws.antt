-- No public contract cites this.
-- The rows of which an ask keeps one are of one group and the same to it; in a skyline clause they are all such rows. (this project)
use Rattle.std.proofs.Common.{◌≡◌, ℤ, ℕ, List, [], ◌∷◌, ◌++◌, true, refl, arith}
use Rattle.std.specs.Prelude.{◌&&◌}
use Rattle.std.proofs.lemmas.Bool.{and_parts}
use Rattle.std.proofs.lemmas.Bool.Decides.{Decides-int_eq}
use Rattle.std.proofs.lemmas.Int.{ints}
use Rattle.pref_term.specs.Preference.{Base, Preference, scored, pareto, prior, reverse}
use Rattle.pref_term.specs.Better.{cell, score, same, in_same_group}
use Rattle.pref_term.specs.Columns.{column, columns_in}
use Rattle.pref_term.specs.OrderLaws.{group_back, group_on}
use Rattle.pref_term.specs.Question.{Question, alike, twins, IsClause, IsDimension}

group_append : (xs ys : List ℕ) (a b : List ℤ) → in_same_group (xs ++ ys) a b ≡ (in_same_group xs a b && in_same_group ys a b)
group_append [] ys a b = refl
group_append (x ∷ xs) ys a b = grind (arith, group_append xs ys a b)

-- rows that are equal in its column score alike
cell_score : (t : Base) (a b : List ℤ) → cell a (column t) ≡ cell b (column t) → score t a ≡ score t b
cell_score t a b e = grind (arith, e)

-- rows that are equal in all columns of a preference are the same to it
equal_same : (p : Preference) (a b : List ℤ) → in_same_group (columns_in p) a b ≡ true → same p a b ≡ true
equal_same (scored t) a b h =
    (Decides-int_eq (score t a) (score t b)).1 (cell_score t a b ((Decides-int_eq (cell a (column t)) (cell b (column t))).0 (and_parts _ true h).0))
equal_same (pareto p q) a b h = grind (arith, group_append (columns_in p) (columns_in q) a b, equal_same p a b, equal_same q a b)
equal_same (prior p q) a b h = grind (arith, group_append (columns_in p) (columns_in q) a b, equal_same p a b, equal_same q a b)
equal_same (reverse p) a b h = equal_same p a b h

-- twins are of one group, and the same
pub twins_alike : (q : Question) (a b : List ℤ) → twins q a b ≡ true → alike q a b ≡ true
twins_alike q a b h = grind (arith, group_append q.group (columns_in q.preference) a b, equal_same q.preference a b)

pub twins_back : (q : Question) (a b : List ℤ) → twins q a b ≡ true → twins q b a ≡ true
twins_back q a b h = grind (arith, group_back (q.group ++ columns_in q.preference) a b)

pub twins_on : (q : Question) (a b c : List ℤ) → twins q a b ≡ true → twins q b c ≡ true → twins q a c ≡ true
twins_on q a b c h k = grind (arith, group_on (q.group ++ columns_in q.preference) a b c)

-- in a skyline clause rows that are the same are equal in each column
dimension_equal : (p : Preference) (a b : List ℤ) → IsDimension p → same p a b ≡ in_same_group (columns_in p) a b
dimension_equal p a b d = grind (arith, ints)

clause_equal : (p : Preference) (a b : List ℤ) → IsClause p → same p a b ≡ in_same_group (columns_in p) a b
clause_equal (scored t) a b c = dimension_equal (scored t) a b c
clause_equal (pareto p q) a b c = grind (arith, clause_equal p a b c.0, dimension_equal q a b c.1, group_append (columns_in p) (columns_in q) a b)
clause_equal _ a b c = absurd c

-- so twins of a clause are the rows of one group that are the same
pub clause_twins : (q : Question) (a b : List ℤ) → IsClause q.preference → alike q a b ≡ in_same_group (q.group ++ columns_in q.preference) a b
clause_twins q a b c = grind (arith, clause_equal q.preference a b c, group_append q.group (columns_in q.preference) a b)
