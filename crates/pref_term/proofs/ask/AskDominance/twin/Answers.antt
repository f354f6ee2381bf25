use Rattle.pref_term.proofs.Common.{arith, clause_twins}
use Rattle.pref_term.proofs.ask.AskDominance.twin.Goals as goal

-- rows of a clause that are the same are equal in each of its columns
pub returns-then-self : goal.returns-then-self
returns-then-self c =
    let q = c.args.self.now in
    let clause = c.self.invariant.0.clause in
    grind (arith, c.self.view_is, clause, c.if-self.true, c.are_alike.ensures, clause_twins q c.args.a.now c.args.b.now)
