use Rattle.pref_term.proofs.Common.{◌∙◌}
use Rattle.pref_term.proofs.LedLemmas.{err_exit, some_all, some_stuck, some_value_fails}
use Rattle.pref_term.proofs.read.base_term.numbers.Goals as goal

pub returns-in_err-value-clause-err : goal.returns-in_err-value-clause-err
returns-in_err-value-clause-err c = err_exit _ _ c.from_residual.ensures.1 (some_value_fails _ _ _ _ _ c.loop-set.invariant.so_far c.in_err-value.ensures.err)

pub returns-then-is-clause-ok : goal.returns-then-is-clause-ok
returns-then-is-clause-ok c = rw c.in_ok-push.ensures.items (some_all _ _ _ _ _ _ c.loop-set.invariant.so_far c.in_ok-value.ensures.ok c.take-taken.result.at _ (c.take-taken.ensures ∙ c.if-is.ensures.yes))

pub returns-in_err-place-clause-err : goal.returns-in_err-place-clause-err
returns-in_err-place-clause-err c = err_exit _ _ c.from_residual-in_err-place.ensures.1 (some_stuck _ _ _ _ _ _ c.loop-set.invariant.so_far c.in_ok-value.ensures.ok _ c.take-taken.result c.take-taken.ensures c.if-is.ensures.no c.in_err-place.ensures.err)
