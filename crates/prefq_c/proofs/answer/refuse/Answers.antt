use Rattle.std.proofs.Common.{inr, rules}
use Rattle.prefq_c.proofs.answer.refuse.Goals as goal

-- for an edit that must fail: an answer fails at once, a search twice at its limits
pub returns-in-Err : goal.returns-in-Err
returns-in-Err c = (search rules, c.refusal_numbers-said.ensures, inr c.put_text-in-Err.ensures)
