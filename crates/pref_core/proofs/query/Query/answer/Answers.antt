use Rattle.pref_core.proofs.Common.{ap, arith, common_steps, Scan, sym}
use Rattle.pref_core.proofs.query.Query.answer.Goals as goal

-- for an edit that must fail: an answer fails at once, a search twice at its limits
pub returns-in_err-answer : goal.returns-in_err-answer
returns-in_err-answer c = grind (arith, common_steps)

pub returns : goal.returns
returns c = (omega (arith, ap (λ (s : Scan). s.left) c.self.view_is), rw (sym c.self.view_is) (c.in_ok-answer.ensures {u = tt}))
