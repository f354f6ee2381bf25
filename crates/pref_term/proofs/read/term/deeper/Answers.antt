use Rattle.pref_term.proofs.Common.{arith, refl}
use Rattle.pref_term.proofs.read.term.deeper.Goals as goal

-- for an edit that must fail: an answer fails at once, a search twice at its limits
pub returns-then-depth-lt-DEEPEST-clause-ok : goal.returns-then-depth-lt-DEEPEST-clause-ok
returns-then-depth-lt-DEEPEST-clause-ok c = (omega arith, refl)
