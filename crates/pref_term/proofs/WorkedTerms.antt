-- Worked examples, by computation: rows that a term ranks, as a reader would rank them by hand.
use Rattle.pref_term.proofs.Common.{◌≡◌, true, false, pos, [], ◌∷◌, negsuc, ◌^◌, ◌-◌, better, same, score, Base, Preference, low, high, around, between, one_of, layered, scored, pareto, prior}
use Rattle.pref_term.proofs.Common.{reverse}

abbrev x_low : Preference
x_low = scored (low 0)

abbrev y_low : Preference
y_low = scored (low 1)

abbrev z_low : Preference
z_low = scored (low 2)

abbrev from_the_greatest : Preference
from_the_greatest = scored (around 0 (pos (2 ^ 63 - 1)))

abbrev from_five_to_nine : Base
from_five_to_nine = between 0 (pos 5) (pos 9)

abbrev x_then_both : Preference
x_then_both = prior x_low (pareto y_low z_low)

abbrev wanted : Preference
wanted = prior (scored (one_of 0 (pos 2 ∷ pos 5 ∷ []))) y_low

abbrev two_or_three_then_five : Base
two_or_three_then_five = layered 0 ((pos 2 ∷ pos 3 ∷ []) ∷ (pos 5 ∷ []) ∷ [])

pub record Worked : Type 0 where
  -- cheaper is better, and equal rows are the same
  pub smaller_is_better : better x_low (pos 10 ∷ []) (pos 30 ∷ []) ≡ true
  pub equal_rows_are_the_same : same (pareto x_low y_low) (pos 1 ∷ pos 2 ∷ []) (pos 1 ∷ pos 2 ∷ []) ≡ true
  pub equal_rows_are_both_kept : better (pareto x_low y_low) (pos 1 ∷ pos 2 ∷ []) (pos 1 ∷ pos 2 ∷ []) ≡ false
  -- from the greatest number, the least is one further away than the one above it: distances 2^64 - 1 and 2^64 - 2
  pub a_distance_does_not_wrap : better from_the_greatest (negsuc (2 ^ 63 - 2) ∷ []) (negsuc (2 ^ 63 - 1) ∷ []) ≡ true
  -- from 5 to 9: below it, at either end, and above it
  pub below_a_range : score from_five_to_nine (pos 4 ∷ []) ≡ pos 1
  pub at_the_ends_of_a_range : same (scored from_five_to_nine) (pos 5 ∷ []) (pos 9 ∷ []) ≡ true
  pub above_a_range : score from_five_to_nine (pos 12 ∷ []) ≡ pos 3
  -- the range of the greatest number alone, from the least: 2^64 - 1
  pub farthest_from_a_range : score (between 0 (pos (2 ^ 63 - 1)) (pos (2 ^ 63 - 1))) (negsuc (2 ^ 63 - 1) ∷ []) ≡ pos (2 ^ 64 - 1)
  -- the product binds tighter: x first, then y and z at once
  pub first_column_decides : better x_then_both (pos 0 ∷ pos 9 ∷ pos 9 ∷ []) (pos 1 ∷ pos 5 ∷ pos 5 ∷ []) ≡ true
  pub neither_of_both_decides : better x_then_both (pos 1 ∷ pos 5 ∷ pos 5 ∷ []) (pos 1 ∷ pos 4 ∷ pos 6 ∷ []) ≡ false
  -- in the other grouping the last column has a say at once
  pub grouping_matters : better (pareto (prior x_low y_low) z_low) (pos 0 ∷ pos 9 ∷ pos 9 ∷ []) (pos 1 ∷ pos 5 ∷ pos 5 ∷ []) ≡ false
  -- "the same" asks each base term; two rows of which neither is better need not be the same
  pub neither_better_is_not_same : better (prior (pareto x_low y_low) z_low) (pos 1 ∷ pos 2 ∷ pos 0 ∷ []) (pos 2 ∷ pos 1 ∷ pos 9 ∷ []) ≡ false
  -- the converse of smaller x and larger y at once
  pub converse_of_a_product : better (reverse (pareto x_low (scored (high 1)))) (pos 3 ∷ pos 7 ∷ []) (pos 1 ∷ pos 9 ∷ []) ≡ true
  -- a wanted value first, and then the smaller y
  pub a_member_is_better : better wanted (pos 2 ∷ pos 7 ∷ []) (pos 1 ∷ pos 0 ∷ []) ≡ true
  pub of_two_members_the_smaller : better wanted (pos 5 ∷ pos 6 ∷ []) (pos 2 ∷ pos 7 ∷ []) ≡ true
  -- 2 and 3 before 5, and these before all others; of those alike in that the smaller y
  pub in_the_first_set : score two_or_three_then_five (pos 3 ∷ []) ≡ pos 0
  pub in_the_second_set : score two_or_three_then_five (pos 5 ∷ []) ≡ pos 1
  pub in_no_set : score two_or_three_then_five (pos 7 ∷ []) ≡ pos 2
  pub of_one_set_the_smaller : better (prior (scored two_or_three_then_five) y_low) (pos 2 ∷ pos 3 ∷ []) (pos 3 ∷ pos 9 ∷ []) ≡ true
  -- a value of two sets counts by the first
  pub of_two_sets_the_first : score (layered 0 ((pos 2 ∷ []) ∷ (pos 3 ∷ pos 2 ∷ []) ∷ [])) (pos 2 ∷ []) ≡ pos 0
  -- a set that is there twice leaves a level out
  pub a_set_twice : score (layered 0 ((pos 5 ∷ []) ∷ (pos 5 ∷ []) ∷ [])) (pos 1 ∷ []) ≡ pos 2

-- each by computation
pub worked : Worked
worked = search
