-- No public contract cites this.
-- A code of preferences and of questions, by which proofs distinguish their values. It says nothing of what they mean. (this project)
use Rattle.std.specs.Prelude.{◌≡◌, Bool, ℕ, ℤ, List, ◌⊎◌, refl}
use Rattle.std.proofs.Common.{inl, inr, ap, arith}
use base.Stored.{Gv, gnum, gcons}
use Rattle.std.specs.Coded.{Coded, code_by, coded_ℕ, coded_ℤ, coded_list, coded_bool, coded×, coded⊎}
use Rattle.pref_term.specs.Preference.{Base, low, high, around, one_of, Preference, scored, pareto, prior, reverse, between, layered}
use Rattle.pref_term.specs.declared.ask.Mode.{Mode}
use Rattle.pref_term.specs.declared.ask.Mode.TheVariants.{Best, TopLevel, AtLeast}
use Rattle.pref_term.specs.Question.{Question}

abbrev BaseParts : Type 0
BaseParts = (ℕ ⊎ ℕ) ⊎ ((ℕ × ℤ) ⊎ ((ℕ × List ℤ) ⊎ ((ℕ × (ℤ × ℤ)) ⊎ (ℕ × List (List ℤ)))))

abbrev parts_of : Base → BaseParts
parts_of (low col) = inl (inl col)
parts_of (high col) = inl (inr col)
parts_of (around col centre) = inr (inl (col, centre))
parts_of (one_of col set) = inr (inr (inl (col, set)))
parts_of (between col left right) = inr (inr (inr (inl (col, (left, right)))))
parts_of (layered col sets) = inr (inr (inr (inr (col, sets))))

abbrev base_of : BaseParts → Base
base_of (inl (inl col)) = low col
base_of (inl (inr col)) = high col
base_of (inr (inl (col, centre))) = around col centre
base_of (inr (inr (inl (col, set)))) = one_of col set
base_of (inr (inr (inr (inl (col, (left, right)))))) = between col left right
base_of (inr (inr (inr (inr (col, sets))))) = layered col sets

pub base_again : (b : Base) → base_of (parts_of b) ≡ b
base_again (low col) = refl
base_again _ = refl

abbrev coded_base : Coded Base
coded_base = code_by BaseParts (coded⊎ (coded⊎ coded_ℕ coded_ℕ) (coded⊎ (coded× coded_ℕ coded_ℤ) (coded⊎ (coded× coded_ℕ (coded_list coded_ℤ)) (coded⊎ (coded× coded_ℕ (coded× coded_ℤ coded_ℤ)) (coded× coded_ℕ (coded_list (coded_list coded_ℤ))))))) parts_of base_of base_again

abbrev code_of : Preference → Gv
code_of (scored b) = gcons (gnum 0) (coded_base.code b)
code_of (pareto p q) = gcons (gnum 1) (gcons (code_of p) (code_of q))
code_of (prior p q) = gcons (gnum 2) (gcons (code_of p) (code_of q))
code_of (reverse p) = gcons (gnum 3) (code_of p)

pub code_again : (x y : Preference) → code_of x ≡ code_of y → x ≡ y
code_again (scored b) (scored c) h = let e : coded_base.code b ≡ coded_base.code c = cc in ap scored (coded_base.inj b c e)
code_again (pareto p q) (pareto r s) h = grind (arith, code_again p r, code_again q s)
code_again (prior p q) (prior r s) h = grind (arith, code_again p r, code_again q s)
code_again (reverse p) (reverse r) h = grind (arith, code_again p r)
code_again _ _ h = cc

abbrev coded_preference : Coded Preference
coded_preference = record { code = code_of; inj = code_again }

abbrev mode_parts : Mode → ℕ ⊎ (ℕ ⊎ ℕ)
mode_parts Best = inl 0
mode_parts (TopLevel k) = inr (inl k)
mode_parts (AtLeast k) = inr (inr k)

abbrev mode_of : ℕ ⊎ (ℕ ⊎ ℕ) → Mode
mode_of (inl n) = Best
mode_of (inr (inl k)) = TopLevel k
mode_of (inr (inr k)) = AtLeast k

pub mode_again : (m : Mode) → mode_of (mode_parts m) ≡ m
mode_again Best = refl
mode_again _ = refl

abbrev coded_mode : Coded Mode
coded_mode = code_by (ℕ ⊎ (ℕ ⊎ ℕ)) (coded⊎ coded_ℕ (coded⊎ coded_ℕ coded_ℕ)) mode_parts mode_of mode_again

abbrev pub coded_question : Coded Question
coded_question =
    code_by (Preference × (List ℕ × (Mode × Bool))) (coded× coded_preference (coded× (coded_list coded_ℕ) (coded× coded_mode coded_bool)))
    (λ q. (q.preference, (q.group, (q.mode, q.distinct)))) (λ p. record { preference = p.0; group = p.1.0; mode = p.1.1.0; distinct = p.1.1.1 }) (λ _. refl)
