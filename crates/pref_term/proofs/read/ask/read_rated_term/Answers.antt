use Rattle.pref_term.proofs.AskLemmas.{asks_exit, rated_group_fails, rated_known}
use Rattle.pref_term.proofs.read.ask.read_rated_term.Goals as goal

pub returns-in_err-group-clause-asked : goal.returns-in_err-group-clause-asked
returns-in_err-group-clause-asked c head _ = asks_exit _ c.from_residual-in_err-group.ensures.1 (rated_group_fails _ _ _ _ _ c.in_ok-term.ensures.parsed c.in_err-group.ensures.err head)

pub new-requires : goal.new-requires
new-requires c = let known = rated_known _ _ _ _ _ c.args.mode c.in_ok-term.ensures.parsed c.in_ok-group.ensures.ok c.requires in known.0

pub returns-clause-known : goal.returns-clause-known
returns-clause-known c = rw (c.in_ok-new.ensures {u = tt}) (let known = rated_known _ _ _ _ _ c.args.mode c.in_ok-term.ensures.parsed c.in_ok-group.ensures.ok c.requires in known.1)
