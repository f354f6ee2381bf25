use Rattle.pref_term.proofs.Common.{◌∙◌}
use Rattle.pref_term.proofs.LedLemmas.{err_exit, some_sets_fails, some_numbers_fails, some_sets_all, some_sets_stuck}
use Rattle.pref_term.proofs.read.base_term.sets.Goals as goal

pub returns-in_err-inside-clause-err : goal.returns-in_err-inside-clause-err
returns-in_err-inside-clause-err c = err_exit _ _ c.from_residual.ensures.1 (some_sets_fails _ _ _ _ c.loop-sets.invariant.so_far c.in_err-inside.ensures.err)

pub returns-in_err-numbers-clause-err : goal.returns-in_err-numbers-clause-err
returns-in_err-numbers-clause-err c = err_exit _ _ c.from_residual-in_err-numbers.ensures.1 (some_numbers_fails _ _ _ _ c.loop-sets.invariant.so_far c.in_ok-inside.ensures.ok _ c.in_err-numbers.ensures.err)

pub returns-then-is-clause-ok : goal.returns-then-is-clause-ok
returns-then-is-clause-ok c =
    rw (c.in_ok-push.ensures.items, c.of.ensures) (some_sets_all _ _ _ _ c.loop-sets.invariant.so_far c.in_ok-inside.ensures.ok _ _ c.in_ok-numbers.ensures.ok c.take-taken.result.at _ (c.take-taken.ensures ∙ c.if-is.ensures.yes))

pub returns-in_err-place-clause-err : goal.returns-in_err-place-clause-err
returns-in_err-place-clause-err c =
    err_exit _ _ c.from_residual-in_err-place.ensures.1 (some_sets_stuck _ _ _ _ c.loop-sets.invariant.so_far c.in_ok-inside.ensures.ok _ _ c.in_ok-numbers.ensures.ok _ c.take-taken.result c.take-taken.ensures c.if-is.ensures.no c.in_err-place.ensures.err)
