-- No public contract cites this.
-- A row is better where it is at least as good and the other is not, and the same where each is as good; being as good is reflexive and transitive. (this project)
use Rattle.std.proofs.Common.{◌≡◌, ℤ, ℕ, List, [], ◌∷◌, Bool, true, not, refl, arith}
use Rattle.std.specs.Prelude.{◌&&◌, ◌||◌, int_lt}
use Rattle.std.proofs.lemmas.Int.{ints}
use Rattle.pref_term.specs.Preference.{Preference, scored, pareto, prior, reverse}
use Rattle.pref_term.specs.Better.{score, same, better, in_same_group}

-- the first row is at least as good as the second
abbrev pub as_good : Preference → List ℤ → List ℤ → Bool
as_good (scored t) a b = not (int_lt (score t b) (score t a))
as_good (pareto p q) a b = as_good p a b && as_good q a b
as_good (prior p q) a b = as_good p a b && (not (as_good p b a) || as_good q a b)
as_good (reverse p) a b = as_good p b a

pub as_good_on : (p : Preference) (a b c : List ℤ) → as_good p a b ≡ true → as_good p b c ≡ true → as_good p a c ≡ true
as_good_on (scored t) a b c h k = grind (arith, ints)
as_good_on (pareto p q) a b c h k = grind (arith, as_good_on p a b c, as_good_on q a b c)
as_good_on (prior p q) a b c h k = grind (arith, as_good_on p a b c, as_good_on p b c a, as_good_on p c a b, as_good_on q a b c)
as_good_on (reverse p) a b c h k = as_good_on p c b a k h

pub same_is : (p : Preference) (a b : List ℤ) → same p a b ≡ (as_good p a b && as_good p b a)
same_is (scored t) a b = grind (arith, ints)
same_is (pareto p q) a b = grind (arith, same_is p a b, same_is q a b)
same_is (prior p q) a b = grind (arith, same_is p a b, same_is q a b)
same_is (reverse p) a b = grind (arith, same_is p a b)

pub better_is : (p : Preference) (a b : List ℤ) → better p a b ≡ (as_good p a b && not (as_good p b a))
better_is (scored t) a b = grind (arith, ints)
better_is (pareto p q) a b = grind (arith, better_is p a b, better_is q a b, same_is p a b, same_is q a b)
better_is (prior p q) a b = grind (arith, better_is p a b, better_is q a b, same_is p a b)
better_is (reverse p) a b = better_is p b a

-- being in one group is symmetric and transitive
pub group_back : (cols : List ℕ) (a b : List ℤ) → in_same_group cols a b ≡ true → in_same_group cols b a ≡ true
group_back [] a b h = refl
group_back (col ∷ cols) a b h = grind (arith, ints, group_back cols a b)

pub group_on : (cols : List ℕ) (a b c : List ℤ) → in_same_group cols a b ≡ true → in_same_group cols b c ≡ true → in_same_group cols a c ≡ true
group_on [] a b c h k = refl
group_on (col ∷ cols) a b c h k = grind (arith, ints, group_on cols a b c)
