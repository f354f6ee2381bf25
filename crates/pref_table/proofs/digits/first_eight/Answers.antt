use Rattle.pref_table.proofs.Common.{◌∙◌, ℕ, get_or, arith}
use Rattle.pref_table.specs.Digits.{digit_at}
use Rattle.pref_table.proofs.DigitsFacts.{digit_below, value_of_front}
use Rattle.pref_table.proofs.LeadingFacts.{leading_are, leading_few}
use Rattle.pref_table.proofs.digits.first_eight.Goals as goal

pub aligned-requires-clause-few : goal.aligned-requires-clause-few
aligned-requires-clause-few c = leading_few 8 c.args.text.now c.count_digits-count.result c.count_digits-count.ensures

pub returns-clause-digits : goal.returns-clause-digits
returns-clause-digits c =
    let text = c.args.text.now in
    let count = c.count_digits-count.result in
    let all = c.count_digits-count.ensures in
    let are = leading_are 8 text count all in
    let few = leading_few 8 text count all in
    let byte = λ (k : ℕ). get_or text k 0 in
    let word = c.aligned.ensures byte (λ k. (c.type_inv.text k).fits) c.word.ensures are in
    let value = c.value_of_eight.ensures (digit_at byte count) (digit_below byte count few are) word in
    record { all = all; reads = value ∙ value_of_front text count few (omega (arith, few, c.requires)) are }

pub returns-clause-few : goal.returns-clause-few
returns-clause-few c = leading_few 8 c.args.text.now c.count_digits-count.result c.count_digits-count.ensures
