use Rattle.pref_term.proofs.Common.{length, ahead, ReadsSomeColumns}
use Rattle.pref_term.proofs.read.ask.group_columns.Given as goal

-- the columns so far were read, and one more is due
abbrev pub invariant-loop-columns : goal.invariant-loop-columns
invariant-loop-columns l = ReadsSomeColumns l.schema (ahead l.fn.cursor) l.columns.items (ahead l.place)

abbrev pub decreases-loop-columns : goal.decreases-loop-columns
decreases-loop-columns l = length (ahead l.place)
