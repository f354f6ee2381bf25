use Rattle.pref_table.proofs.Common.{◌≡◌, ◌<◌, ◌≤◌, ◌+◌, get_or, drop, sym, ap, ◌∙◌, arith, ◌&&◌, all_ascii_digits}
use Rattle.pref_table.proofs.NumberFacts.{digits_next, value_kept, value_past}
use Rattle.pref_table.proofs.number.magnitude.Goals.{then-value-lt-ROOM_FOR_A_DIGIT, else-value-lt-ROOM_FOR_A_DIGIT}
use Rattle.pref_table.proofs.number.magnitude.Goals as goal

pub loop-digit-preserved : goal.loop-digit-preserved
loop-digit-preserved c =
    let ds = c.args.digits.now in
    let i = c.loop-digit.digit-index in
    let kept = c.loop-digit.invariant in
    let inside = c.loop-digit-test.true in
    let digit = c.if-not-is_ascii_digit.ensures in
    let low : 48 ≤ get_or ds i 0 = digit.cases.0 in
    let high : get_or ds i 0 < 58 = omega (arith, digit.cases.1) in
    let rest : all_ascii_digits (drop (i + 1) ds) ≡ all_ascii_digits (drop i ds) =
    ap (λ t. t && all_ascii_digits (drop (i + 1) ds)) digit.value ∙ sym (digits_next ds i inside) in
    elim c.if-value-lt-ROOM_FOR_A_DIGIT.branch [
      | then-value-lt-ROOM_FOR_A_DIGIT w ↦ record {
        digits = rest ∙ kept.digits;
        so_far = λ _. value_kept ds i c.loop-digit.value inside low high c.if-value-lt-ROOM_FOR_A_DIGIT.value
            (omega (arith, w.value-is, w.from.ensures)) (kept.so_far (omega (arith, w.if-value-lt-ROOM_FOR_A_DIGIT.true)));
        beyond = λ large. absurd (omega (arith, w.value-is, w.from.ensures, w.if-value-lt-ROOM_FOR_A_DIGIT.true, high));
      }
      | else-value-lt-ROOM_FOR_A_DIGIT w ↦ record {
        digits = rest ∙ kept.digits;
        so_far = λ small. absurd (omega (arith, w.value-is));
        beyond = λ _. value_past ds i c.loop-digit.value inside low high w.if-value-lt-ROOM_FOR_A_DIGIT.false kept.so_far kept.beyond;
      }
    ]
