-- What building a question finds of its parts.
use Rattle.pref_term.proofs.Common.{ℕ, Bool, true, List, ◌≡◌, refl, subst, sym, Result, MatchResult}
use Rattle.pref_term.proofs.Common.{Preference, Question, IsAsk, IsClause, Mode, inl, inr}
use Rattle.pref_term.proofs.Common.{Some, None}
use Rattle.pref_term.specs.Built.{IsRefused, IsRefusedFor, first_fault}
use Rattle.pref_term.specs.declared.fault.AskFault.{AskFault}
use Rattle.pref_term.specs.declared.fault.AskFault.TheVariants.{NotSkyline, OutOfMemory}
use Rattle.std.proofs.lemmas.Result.{MatchResult-weaker}

-- refused for what was found
pub refused_for : (q : Question) (f : AskFault) → first_fault q.preference q.group q.mode ≡ Some f → IsRefused q f
refused_for q f h = subst (λ found. IsRefusedFor q found f) (sym h) refl

-- nothing was found, and no clause means the term
pub no_clause : (q : Question) → first_fault q.preference q.group q.mode ≡ None → q.distinct ≡ true → (IsClause q.preference → ⊥) → IsRefused q NotSkyline
no_clause q none distinct other = subst (λ found. IsRefusedFor q found NotSkyline) (sym none) (inl (refl, distinct, λ skyline. other skyline.preference))

-- ---- questions

-- the parts as contracts see them
abbrev pub parts : Preference → List ℕ → Mode → Bool → Question
parts p group mode distinct = record { preference = p; group = group; mode = mode; distinct = distinct }

-- nothing was found, and the question is made, or there was no memory for it
pub made : (r : Result Question AskFault) (q : Question) → first_fault q.preference q.group q.mode ≡ None → IsAsk q → MatchResult r (λ ask. ask ≡ q) (λ f. f ≡ OutOfMemory)
    → MatchResult r (λ ask. IsAsk ask × (ask ≡ q)) (λ f. IsRefused q f)
made r q none h is_made = MatchResult-weaker r is_made (λ ask is. (subst IsAsk (sym is) h, is)) (λ f is. subst (λ found. IsRefusedFor q found f) (sym none) (inr (is, h)))
