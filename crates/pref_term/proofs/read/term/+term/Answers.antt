use Rattle.pref_term.proofs.Common.{List, arith, ap, sym, subst, ◌∙◌, length, Placed, sign, star, ampersand, NotNext}
use Rattle.pref_term.proofs.LedLemmas.{fault_exit}
use Rattle.pref_term.proofs.CycleLemmas.{more_factors, more_factors_fail, more_products, more_products_fail, reads_group, reads_unary}
use Rattle.pref_term.proofs.read.term.+term.Goals as goal

pub prior-returns-in_err-last-clause-parsed : goal.prior-returns-in_err-last-clause-parsed
prior-returns-in_err-last-clause-parsed t c =
    fault_exit _ _ _ c.from_residual-in_err-last.ensures.1 (more_products_fail _ _ _ _ _ _ c.loop-taken.invariant.so_far c.take-taken.result.at (c.take-taken.ensures ∙ c.if-not-is.ensures.yes) _ c.in_err-last.ensures.parsed)

pub product-returns-in_err-factor-clause-parsed : goal.product-returns-in_err-factor-clause-parsed
product-returns-in_err-factor-clause-parsed t c =
    fault_exit _ _ _ c.from_residual-in_err-factor.ensures.1 (more_factors_fail _ _ _ _ _ _ c.loop-taken.invariant.so_far c.take-taken.result.at (c.take-taken.ensures ∙ c.if-not-is.ensures.yes) _ c.in_err-factor.ensures.parsed)

pub prior-loop-taken-preserved : goal.prior-loop-taken-preserved
prior-loop-taken-preserved t c =
    let e = c.take-taken.ensures ∙ c.if-not-is.ensures.yes in
    let passed = ap (λ (xs : List Placed). length xs) e in
    record {
      so_far = rw (c.in_ok-term-2.ensures {u = tt}) (more_products _ _ _ _ _ _ c.loop-taken.invariant.so_far c.take-taken.result.at e _ _ c.in_ok-last.ensures.parsed);
      stops = c.in_ok-last.ensures.parsed.stops;
      shorter = omega (arith, c.in_ok-last.ensures.shorter, c.loop-taken.invariant.shorter, passed);
    }

pub product-loop-taken-preserved : goal.product-loop-taken-preserved
product-loop-taken-preserved t c =
    let e = c.take-taken.ensures ∙ c.if-not-is.ensures.yes in
    let passed = ap (λ (xs : List Placed). length xs) e in
    record {
      so_far = rw (c.in_ok-term-2.ensures {u = tt}) (more_factors _ _ _ _ _ _ c.loop-taken.invariant.so_far c.take-taken.result.at e _ _ c.in_ok-factor.ensures.parsed);
      shorter = omega (arith, c.in_ok-factor.ensures.shorter, c.loop-taken.invariant.shorter, passed);
    }

-- for an edit that must fail: an answer fails at once, a search twice at its limits
pub product-returns-then-not-is-clause-parsed : goal.product-returns-then-not-is-clause-parsed
product-returns-then-not-is-clause-parsed t c = record { factors = c.loop-taken.invariant.so_far; stops = subst (NotNext (sign star)) (sym c.take-taken.ensures) c.if-not-is.ensures.no }

pub prior-returns-then-not-is-clause-parsed : goal.prior-returns-then-not-is-clause-parsed
prior-returns-then-not-is-clause-parsed t c =
    record { products = c.loop-taken.invariant.so_far; stops = c.loop-taken.invariant.stops; stops_too = subst (NotNext (sign ampersand)) (sym c.take-taken.ensures) c.if-not-is.ensures.no }

pub group-returns-in_err-inside-clause-parsed : goal.group-returns-in_err-inside-clause-parsed
group-returns-in_err-inside-clause-parsed t c = grind (arith, reads_group)

pub group-returns-in_err-term-clause-parsed : goal.group-returns-in_err-term-clause-parsed
group-returns-in_err-term-clause-parsed t c = grind (arith, reads_group)

pub group-returns-in_err-rest-clause-parsed : goal.group-returns-in_err-rest-clause-parsed
group-returns-in_err-rest-clause-parsed t c = grind (arith, reads_group)

pub group-returns-then-not-is-clause-parsed : goal.group-returns-then-not-is-clause-parsed
group-returns-then-not-is-clause-parsed t c = grind (arith, reads_group)

pub group-returns-clause-parsed : goal.group-returns-clause-parsed
group-returns-clause-parsed t c = grind (arith, reads_group)

pub unary-returns-in_err-inside-clause-parsed : goal.unary-returns-in_err-inside-clause-parsed
unary-returns-in_err-inside-clause-parsed t c = grind (arith, reads_unary)

pub unary-returns-in_err-part-clause-parsed : goal.unary-returns-in_err-part-clause-parsed
unary-returns-in_err-part-clause-parsed t c = grind (arith, reads_unary)

pub unary-returns-then-is-clause-parsed : goal.unary-returns-then-is-clause-parsed
unary-returns-then-is-clause-parsed t c = grind (arith, reads_unary)

pub unary-returns-in_default : goal.unary-returns-in_default
unary-returns-in_default t c = grind (arith, reads_unary)

pub unary-returns-in_err-part-in-Some-Reverse-clause-parsed : goal.unary-returns-in_err-part-in-Some-Reverse-clause-parsed
unary-returns-in_err-part-in-Some-Reverse-clause-parsed t c = grind (arith, reads_unary)
