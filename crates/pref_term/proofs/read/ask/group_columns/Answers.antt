use Rattle.pref_term.proofs.Common.{◌∙◌}
use Rattle.pref_term.proofs.LedLemmas.{err_exit}
use Rattle.pref_term.proofs.AskLemmas.{columns_none, columns_more, columns_fail, columns_all, columns_stuck}
use Rattle.pref_term.proofs.read.ask.group_columns.Goals as goal

pub loop-columns-init : goal.loop-columns-init
loop-columns-init c = rw c.new-columns.ensures.items (columns_none _ _)

pub loop-columns-preserved : goal.loop-columns-preserved
loop-columns-preserved c = rw c.in_ok-push.ensures.items (columns_more _ _ _ _ _ _ c.loop-columns.invariant c.in_ok-col.ensures.ok _ c.in_ok-place.ensures.ok)

pub returns-in_err-col-clause-err : goal.returns-in_err-col-clause-err
returns-in_err-col-clause-err c = err_exit _ _ c.from_residual.ensures.1 (columns_fail _ _ _ _ _ c.loop-columns.invariant c.in_err-col.ensures.err)

pub returns-then-ends-clause-ok : goal.returns-then-ends-clause-ok
returns-then-ends-clause-ok c = rw c.in_ok-push.ensures.items (columns_all _ _ _ _ _ _ c.loop-columns.invariant c.in_ok-col.ensures.ok c.take.result.at (c.take.ensures ∙ c.if-ends.ensures.yes))

pub returns-in_err-place-clause-err : goal.returns-in_err-place-clause-err
returns-in_err-place-clause-err c = err_exit _ _ c.from_residual-in_err-place.ensures.1 (columns_stuck _ _ _ _ _ _ c.loop-columns.invariant c.in_ok-col.ensures.ok _ c.take.result c.take.ensures c.if-ends.ensures.no c.in_err-place.ensures.err)
