use Rattle.pref_term.proofs.AskLemmas.{clause_known}
use Rattle.pref_term.proofs.read.ask.clause_ask.Goals as goal

pub new-requires : goal.new-requires
new-requires c = let known = clause_known _ _ _ _ c.args.distinct (rw c.in-Some.is at c.in_ok-product.ensures.ok) in known.0

pub returns-clause-known : goal.returns-clause-known
returns-clause-known c = rw (c.in_ok-new.ensures {u = tt}) (let known = clause_known _ _ _ _ c.args.distinct (rw c.in-Some.is at c.in_ok-product.ensures.ok) in known.1)
