use Rattle.std.proofs.Common.{arith, refl, rules, Ok, Err}
use Rattle.prefq_c.proofs.table.Table.get.Goals as goal

-- for an edit that must fail: an answer fails at once, a search twice at its limits
pub returns-in_err-row : goal.returns-in_err-row
returns-in_err-row c = (refl, (λ _. (Err c.in_err-row.field-0.0, c.in_err-row.ensures, (search rules, refl))), λ other. absurd (other (grind arith)))

pub returns : goal.returns
returns c = (refl, (λ _. (Ok c.in_ok-row.row, c.in_ok-row.ensures, (refl, c.copy_cells.ensures))), λ other. absurd (other (grind arith)))
