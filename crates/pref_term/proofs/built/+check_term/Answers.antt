use Rattle.pref_term.proofs.Common.{arith}
use Rattle.pref_term.proofs.built.+check_term.Goals as goal

-- for an edit that must fail: an answer fails at once, a search twice at its limits
pub returns-in_err-check_term-in-Pareto-clause-first : goal.returns-in_err-check_term-in-Pareto-clause-first
returns-in_err-check_term-in-Pareto-clause-first t c = grind (arith)
