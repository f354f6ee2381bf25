use Rattle.pref_term.proofs.Common.{◌∙◌}
use Rattle.pref_term.proofs.LedLemmas.{err_exit}
use Rattle.pref_term.proofs.AskLemmas.{dims_fail, dims_all, dims_stuck}
use Rattle.pref_term.proofs.read.ask.dimensions.Goals as goal

pub returns-in_err-dimension-clause-err : goal.returns-in_err-dimension-clause-err
returns-in_err-dimension-clause-err c = err_exit _ _ c.from_residual.ensures.1 (dims_fail _ _ _ _ _ _ c.loop-clause.invariant c.in_err-dimension.ensures.err)

pub returns-then-ends-clause-ok : goal.returns-then-ends-clause-ok
returns-then-ends-clause-ok c =
    rw (c.in_ok-clause.ensures.product, c.in_ok-clause.ensures.group) (dims_all _ _ _ _ _ _ _ _ c.loop-clause.invariant c.in_ok-dimension.ensures.ok c.take.result.at (c.take.ensures ∙ c.if-ends.ensures.yes))

pub returns-in_err-place-clause-err : goal.returns-in_err-place-clause-err
returns-in_err-place-clause-err c =
    err_exit _ _ c.from_residual-in_err-place.ensures.1 (dims_stuck _ _ _ _ _ _ _ _ c.loop-clause.invariant c.in_ok-dimension.ensures.ok _ c.take.result c.take.ensures c.if-ends.ensures.no c.in_err-place.ensures.err)
