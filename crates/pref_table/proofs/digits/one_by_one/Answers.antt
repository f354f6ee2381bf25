use Rattle.pref_table.proofs.Common.{◌≡◌, ◌<◌, ◌≤◌, get_or, length, sym, arith}
use Rattle.pref_table.proofs.LeadingFacts.{leading_ends, leading_inside, leading_next, leading_room}
use Rattle.pref_table.proofs.digits.one_by_one.Goals as goal

pub returns-then-not-is_ascii_digit : goal.returns-then-not-is_ascii_digit
returns-then-not-is_ascii_digit c =
    leading_ends c.args.text.now c.loop-place.value c.loop-place.place c.loop-place.place 18 c.loop-place.invariant (omega arith) (λ _ _ _. sym (c.if-not-is_ascii_digit.ensures {u = tt}).value)

pub overflow_mul-value : goal.overflow_mul-value
overflow_mul-value c = omega (arith, leading_room c.args.text.now c.loop-place.value c.loop-place.place c.loop-place.invariant (omega arith))

pub overflow_add-value : goal.overflow_add-value
overflow_add-value c = omega (arith, leading_room c.args.text.now c.loop-place.value c.loop-place.place c.loop-place.invariant (omega arith), c.from.ensures)

pub loop-place-preserved : goal.loop-place-preserved
loop-place-preserved c =
    let text = c.args.text.now in
    let place = c.loop-place.place in
    let inside : place < length text = omega arith in
    let digit = c.if-not-is_ascii_digit.ensures in
    let low : 48 ≤ get_or text place 0 = omega (arith, digit.cases.0) in
    let high : get_or text place 0 < 58 = omega (arith, digit.cases.1) in
    leading_next text c.loop-place.value place c.loop-place.invariant inside (low, high) _ (omega (arith, c.from.ensures))

pub returns : goal.returns
returns c =
    let text = c.args.text.now in
    let place = c.loop-place.place in
    let led = c.requires.digits in
    let done : place ≡ c.min-most.result = omega (arith, leading_inside c.args.begin text c.args.begin led.all, c.requires.few) in
    rw (← done) (leading_ends text c.loop-place.value place place 18 c.loop-place.invariant (omega arith) (λ _ less inside. absurd (omega arith)))
