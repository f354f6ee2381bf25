use Rattle.pref_term.proofs.Common.{w64, arith, rules, to_z-of_z}
use Rattle.pref_term.proofs.KeyLaws.{centred}
use Rattle.pref_term.proofs.walk.+walk.Goals as goal

pub walk-returns-in-Around : goal.walk-returns-in-Around
walk-returns-in-Around t c =
    let centre = to_z-of_z w64 c.in-Around.centre (search rules) in
    let a = to_z-of_z w64 c.cell-in-Around.result (search rules) in
    let b = to_z-of_z w64 c.cell-in-Around-2.result (search rules) in
    grind (arith, centre, a, b, centred)

pub walk-returns-in-Layered : goal.walk-returns-in-Layered
walk-returns-in-Layered t c =
    let a = to_z-of_z w64 c.cell-in-Layered.result (search rules) in
    let b = to_z-of_z w64 c.cell-in-Layered-2.result (search rules) in
    grind (arith, a, b)

-- for an edit that must fail: an answer fails at once, a search twice at its limits
pub converse-returns : goal.converse-returns
converse-returns t c = c.walk.ensures
