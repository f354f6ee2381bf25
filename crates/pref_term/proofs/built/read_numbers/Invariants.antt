use Rattle.pref_term.proofs.Common.{◌<◌, ℕ, ℤ, FitsSigned, get_or, w64}
use Rattle.pref_term.proofs.built.read_numbers.Given as goal

-- the numbers so far
abbrev pub invariant-loop-number : goal.invariant-loop-number
invariant-loop-number l = (k : ℕ) (d : ℤ) → k < l.number-index → FitsSigned w64 (get_or l.numbers k d)
