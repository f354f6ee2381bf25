use Rattle.pref_term.proofs.Common.{arith, rules, w64, to_z-of_z}
use Rattle.pref_term.proofs.KeyLaws.{turned}
use Rattle.pref_term.proofs.key.Key.by_sets.Goals as goal

pub returns-then-self : goal.returns-then-self
returns-then-self c =
    let a = to_z-of_z w64 c.cell-first.result (search rules) in
    let b = to_z-of_z w64 c.cell-second.result (search rules) in
    grind (arith, a, b, turned)

pub returns-else-self : goal.returns-else-self
returns-else-self c =
    let a = to_z-of_z w64 c.cell-first.result (search rules) in
    let b = to_z-of_z w64 c.cell-second.result (search rules) in
    grind (arith, a, b)
