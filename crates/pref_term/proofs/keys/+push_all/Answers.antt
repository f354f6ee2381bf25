use Rattle.pref_term.proofs.Common.{arith, common_steps}
use Rattle.pref_term.proofs.keys.+push_all.Goals as goal

-- for an edit that must fail: an answer fails at once, a search twice at its limits
pub returns-in_ok-push_all-in-Pareto : goal.returns-in_ok-push_all-in-Pareto
returns-in_ok-push_all-in-Pareto t c = grind (arith, common_steps)
