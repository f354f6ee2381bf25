use Rattle.pref_term.proofs.Common.{arith}
use Rattle.pref_term.proofs.LedLemmas.{column_unknown}
use Rattle.pref_term.proofs.read.base_term.column.Goals as goal

-- for an edit that must fail: an answer fails at once, a search twice at its limits
pub returns-in-None-clause-err : goal.returns-in-None-clause-err
returns-in-None-clause-err c = grind (arith, column_unknown)
