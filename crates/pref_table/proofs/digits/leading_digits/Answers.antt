use Rattle.pref_table.proofs.Common.{arith, subst}
use Rattle.pref_table.specs.Fields.{AreLeadingDigits}
use Rattle.pref_table.proofs.digits.leading_digits.Goals as goal

pub more_digits-requires : goal.more_digits-requires
more_digits-requires c = subst (AreLeadingDigits 8 c.args.text.now c.first_eight-value.result.0) {x = c.first_eight-value.result.1} {y = 8} (omega arith) c.first_eight-value.ensures.digits
