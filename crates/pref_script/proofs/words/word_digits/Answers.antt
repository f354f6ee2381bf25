use Rattle.pref_script.proofs.Common.{◌≡◌, ◌∙◌, ◌+◌, true, drop, length, get_or, subst, sym, ap, arith, rules, None, ◌&&◌, is_ascii_digit, all_ascii_digits, digits_next, IsDigitsWord, word_of}
use Rattle.pref_script.proofs.WordsLaws.{digit_not_blank, digits_word, number-large, number-others, value_more, word_goes_on}
use Rattle.pref_script.proofs.words.word_digits.Goals as goal

pub returns-then-is_blank_byte : goal.returns-then-is_blank_byte
returns-then-is_blank_byte c =
    let kept = c.loop-place.invariant in
    digits_word c.args.text.now c.loop-place.place c.loop-place.number kept.inside kept.so_far kept.digits (omega (arith, c.loop-place-test.true)) (λ _. sym c.is_blank_byte.ensures ∙ c.if-is_blank_byte.true)

pub returns-then-not-is_ascii_digit : goal.returns-then-not-is_ascii_digit
returns-then-not-is_ascii_digit c = grind (arith, word_goes_on, number-others)

pub returns-in_err-checked_mul : goal.returns-in_err-checked_mul
returns-in_err-checked_mul c =
    let kept = c.loop-place.invariant in
    let here = word_goes_on c.args.text.now c.loop-place.place kept.inside c.loop-place-test.true (digit_not_blank _ c.if-not-is_ascii_digit.ensures.cases) in
    let more = value_more (word_of c.args.text.now) c.loop-place.place c.loop-place.number here.0 (rw here.1 c.if-not-is_ascii_digit.ensures.cases) kept.so_far in
    let is : c.from_residual.result ≡ None = search rules in
    rw is (λ most few. number-large most (word_of c.args.text.now) (c.loop-place.place + 1) (omega (arith, more, c.in_err-checked_mul.ensures)))

pub returns-in_err-number : goal.returns-in_err-number
returns-in_err-number c =
    let kept = c.loop-place.invariant in
    let here = word_goes_on c.args.text.now c.loop-place.place kept.inside c.loop-place-test.true (digit_not_blank _ c.if-not-is_ascii_digit.ensures.cases) in
    let more = value_more (word_of c.args.text.now) c.loop-place.place c.loop-place.number here.0 (rw here.1 c.if-not-is_ascii_digit.ensures.cases) kept.so_far in
    let is : c.from_residual-in_err-number.result ≡ None = search rules in
    rw is (λ most few. number-large most (word_of c.args.text.now) (c.loop-place.place + 1) (omega (arith, more, here.1, c.in_ok-checked_mul.ensures, c.from.ensures, c.in_err-number.ensures)))

pub loop-place-preserved : goal.loop-place-preserved
loop-place-preserved c =
    let kept = c.loop-place.invariant in
    let word = word_of c.args.text.now in
    let place = c.loop-place.place in
    let here = word_goes_on c.args.text.now place kept.inside c.loop-place-test.true (digit_not_blank _ c.if-not-is_ascii_digit.ensures.cases) in
    let digit : true ≡ is_ascii_digit (get_or word place 0) = rw here.1 c.if-not-is_ascii_digit.ensures.value in
    let more = value_more word place c.loop-place.number here.0 (rw here.1 c.if-not-is_ascii_digit.ensures.cases) kept.so_far in
    record {
      inside = omega (arith, here.0);
      so_far = omega (arith, more, here.1, c.in_ok-checked_mul.ensures, c.from.ensures, c.in_ok-number.ensures);
      digits = ap (λ t. t && all_ascii_digits (drop (place + 1) word)) digit ∙ sym (digits_next word place here.0) ∙ kept.digits;
    }

pub returns : goal.returns
returns c =
    let kept = c.loop-place.invariant in
    let done : c.loop-place.place ≡ length c.args.text.now = omega arith in
    subst (IsDigitsWord c.args.text.now c.loop-place.number) done
    (digits_word c.args.text.now c.loop-place.place c.loop-place.number kept.inside kept.so_far kept.digits (omega arith) (λ h. absurd (omega (arith, h))))
