-- No public contract cites this.
-- The tests of equality are true exactly where preferences, modes and questions are the same. (this project)
use Rattle.std.proofs.Common.{◌≡◌, ◌==◌, ℕ, List, arith, refl, ℤ}
use Rattle.std.proofs.lemmas.Bool.{and_parts}
use Rattle.std.proofs.lemmas.Cmp.{on_equiv}
use Rattle.std.proofs.lemmas.Int.{ints}
use Rattle.std.proofs.lemmas.Slice.Eq.{slice_eq-Decides}
use Rattle.std.specs.Bool.{Decides}
use Rattle.std.specs.Cmp.{IsEquivalence, booleans_Decides, decided, signed_Decides, unsigned_Decides}
use Rattle.std.specs.Cmp.Derive.{both_true}
use Rattle.std.specs.Cmp.Lexicographic.{pointwise}
use Rattle.std.specs.Cmp.Rules.{signed_items}
use Rattle.std.specs.Ordering.{int_eq, on}
use Rattle.pref_term.specs.Equal.{base_eq, preference_eq, mode_eq, question_eq}
use Rattle.pref_term.specs.Preference.{Base, Preference, scored, pareto, prior, reverse, preference_of, layered}
use Rattle.pref_term.specs.Question.{Question}
use Rattle.pref_term.specs.declared.ask.Mode.{Mode}

-- lists of sets
pub set_lists : (s t : List (List ℤ)) → Decides (pointwise (pointwise int_eq) s t) (s ≡ t)
set_lists s t = slice_eq-Decides signed_items s t _ refl

bases_Decides : (a b : Base) → Decides (base_eq a b) (a ≡ b)
bases_Decides (layered a s) (layered b t) = grind (arith, both_true, and_parts, unsigned_Decides a b, set_lists s t)
bases_Decides a b = grind (arith, ints, both_true, and_parts, unsigned_Decides, signed_Decides, signed_items)

pub preferences_Decides : (p q : Preference) → Decides (preference_eq p q) (p ≡ q)
preferences_Decides (scored b) (scored c) = grind (arith, bases_Decides b c)
preferences_Decides (pareto p q) (pareto r s) = grind (arith, preferences_Decides p r, preferences_Decides q s)
preferences_Decides (prior p q) (prior r s) = grind (arith, preferences_Decides p r, preferences_Decides q s)
preferences_Decides (reverse p) (reverse r) = grind (arith, preferences_Decides p r)
preferences_Decides _ _ = (λ h. cc, λ e. cc)

modes_Decides : (a b : Mode) → Decides (mode_eq a b) (a ≡ b)
modes_Decides a b = grind (arith)

groups_Decides : (a b : List ℕ) → Decides (pointwise ◌==◌ a b) (a ≡ b)
groups_Decides a b = slice_eq-Decides unsigned_Decides a b _ refl

pub questions_Decides : (p q : Question) → Decides (question_eq p q) (p ≡ q)
questions_Decides p q = grind (arith, preferences_Decides p.preference q.preference, groups_Decides p.group q.group, modes_Decides p.mode q.mode, booleans_Decides p.distinct q.distinct)

pub terms_equal : IsEquivalence (on preference_of preference_eq)
terms_equal = on_equiv preference_of (decided preference_eq preferences_Decides)

pub questions_equal : IsEquivalence question_eq
questions_equal = decided question_eq questions_Decides
