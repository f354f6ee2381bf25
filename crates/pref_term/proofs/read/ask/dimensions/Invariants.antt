use Rattle.pref_term.proofs.Common.{length, option_map, ahead, ReadsDims, preference_of}
use Rattle.pref_term.proofs.read.ask.dimensions.Given as goal

-- the dimensions so far were read, and one more is due
abbrev pub invariant-loop-clause : goal.invariant-loop-clause
invariant-loop-clause l = ReadsDims l.schema (ahead l.fn.cursor) (option_map preference_of l.clause.product) l.clause.group.items (ahead l.place)

abbrev pub decreases-loop-clause : goal.decreases-loop-clause
decreases-loop-clause l = length (ahead l.place)
