use Rattle.pref_table.proofs.Common.{◌+◌, ◌*◌, ◌^◌, ◌<◌, arith, subst}
use Rattle.std.proofs.lemmas.List.{take_rest}
use Rattle.pref_table.specs.Fields.{AreLeadingDigits}
use Rattle.pref_table.proofs.DigitsFacts.{both_below, both_lead, power_is}
use Rattle.pref_table.proofs.LeadingFacts.{leading_ends}
use Rattle.pref_table.proofs.digits.more_digits.Goals.{After-first_eight-more}
use Rattle.pref_table.proofs.digits.more_digits.Goals as goal

-- the eight digits and those behind them
both : (c : After-first_eight-more) → AreLeadingDigits 16 c.args.text.now (c.args.eight * 10 ^ c.first_eight-more.result.1 + c.first_eight-more.result.0) (8 + c.first_eight-more.result.1)
both c = both_lead c.args.text.now c.args.eight c.first_eight-more.result.0 c.first_eight-more.result.1 c.requires (rw (take_rest c.args.text.now 8) at c.first_eight-more.ensures.digits)

below : (c : After-first_eight-more) → c.args.eight * 10 ^ c.first_eight-more.result.1 + c.first_eight-more.result.0 < 10 ^ 16
below c = both_below c.args.text.now c.args.eight c.first_eight-more.result.0 c.first_eight-more.result.1 c.requires (rw (take_rest c.args.text.now 8) at c.first_eight-more.ensures.digits)

pub overflow_mul-value : goal.overflow_mul-value
overflow_mul-value c = rw (power_is c.first_eight-more.result.1 c.first_eight-more.ensures.few) (omega (arith, below (goal.at.overflow_mul-value c).After-first_eight-more))

pub overflow_add-value : goal.overflow_add-value
overflow_add-value c = rw (power_is c.first_eight-more.result.1 c.first_eight-more.ensures.few) (omega (arith, below (goal.at.overflow_add-value c).After-first_eight-more))

pub returns-then-count-lt8 : goal.returns-then-count-lt8
returns-then-count-lt8 c =
    let count = c.first_eight-more.result.1 in
    rw (power_is count c.first_eight-more.ensures.few)
    (leading_ends c.args.text.now _ (8 + count) 16 18 (both (goal.at.returns-then-count-lt8 c).After-first_eight-more) (omega arith) (λ all. absurd (omega arith)))

pub one_by_one-requires-2-clause-digits : goal.one_by_one-requires-2-clause-digits
one_by_one-requires-2-clause-digits c =
    let count = c.first_eight-more.result.1 in
    rw (power_is count c.first_eight-more.ensures.few)
    (subst (AreLeadingDigits 16 c.args.text.now _) {x = 8 + count} {y = 16} (omega arith) (both (goal.at.one_by_one-requires-2-clause-digits c).After-first_eight-more))
