use Rattle.pref_table.proofs.DigitsFacts.{value_of_digits}
use Rattle.pref_table.proofs.digits.value_of_eight.Goals as goal

pub returns : goal.returns
returns c digit small are = value_of_digits digit c.args.digits small are
