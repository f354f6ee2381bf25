use Rattle.pref_term.proofs.Common.{w64, rules, true, ◌≡◌, to_z, of_z, sym, subst, ap, ◌∙◌, FitsSigned, ◌&&◌, all_ascii_digits, to_z-of_z, fits_cell, ahead, taken, FailsNumber, first_place}
use Rattle.pref_term.proofs.Common.{signed_value, NumberRange}
use Rattle.pref_term.proofs.LedLemmas.{NumberAhead, number_read, number_out_of_range, plain_ahead, signed_ahead}
use Rattle.pref_term.proofs.read.base_term.number.Goals.{then-negative, else-negative, In-Digits}
use Rattle.pref_term.proofs.read.base_term.number.Goals as goal

-- the digits that were taken
ahead_here : (c : In-Digits) → NumberAhead c.is-negative.result (ahead c.args.cursor) c.in-Digits.digits.now (ahead c.if-negative.last.next) × (all_ascii_digits c.in-Digits.digits.now ≡ true)
ahead_here c = elim c.if-negative.branch [
  | then-negative w ↦ signed_ahead c.args.cursor c.take-first.result c.if-negative.last _ c.in-Digits.digits w.if-negative.true (c.take-first.ensures ∙ w.if-negative.ensures.yes) (w.take-last.ensures ∙ ap taken (sym w.last-is)) c.in-Digits.is
  | else-negative w ↦ plain_ahead c.args.cursor c.if-negative.last _ c.in-Digits.digits w.if-negative.false (c.take-first.ensures ∙ ap taken (sym w.last-is)) c.in-Digits.is
]

pub returns-in-Some-clause-ok : goal.returns-in-Some-clause-ok
returns-in-Some-clause-ok c =
    let v = c.in-Some.value in
    let here = ahead_here (goal.at.returns-in-Some-clause-ok c).In-Digits in
    number_read c.is-negative.result (ahead c.args.cursor) (ahead c.if-negative.last.next) c.in-Digits.digits.now (to_z w64 (of_z w64 v)) here.0 (ap (λ b. b && fits_cell (signed_value c.is-negative.result c.in-Digits.digits.now)) (sym here.1) ∙ c.in-Some.ensures.0)
    (to_z-of_z w64 v (search rules) ∙ c.in-Some.ensures.1) (subst (FitsSigned w64) (sym (to_z-of_z w64 v (search rules))) (search rules))

pub returns-in-None-clause-err : goal.returns-in-None-clause-err
returns-in-None-clause-err c =
    let here = ahead_here (goal.at.returns-in-None-clause-err c).In-Digits in
    subst (λ at. FailsNumber (ahead c.args.cursor) (NumberRange at)) (ap first_place c.take-first.ensures)
    (number_out_of_range c.is-negative.result (ahead c.args.cursor) (ahead c.if-negative.last.next) c.in-Digits.digits.now here.0 (ap (λ b. b && fits_cell (signed_value c.is-negative.result c.in-Digits.digits.now)) (sym here.1) ∙ c.in-None.ensures))
