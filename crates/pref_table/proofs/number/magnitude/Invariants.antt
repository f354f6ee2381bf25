use Rattle.pref_table.proofs.Common.{◌≡◌, ◌≤◌, ◌<◌, ◌^◌, drop, all_ascii_digits, digits_value, digits_value_after}
use Rattle.pref_table.proofs.number.magnitude.Given as goal

-- what is left is digits where all is; and the value goes on from the one so far, or is past 2^63 for good
abbrev pub invariant-loop-digit : goal.invariant-loop-digit
invariant-loop-digit l = record {
  digits : all_ascii_digits (drop l.digit-index l.digits) ≡ all_ascii_digits l.digits;
  so_far : l.value < 10 ^ 19 → digits_value_after 10 l.value (drop l.digit-index l.digits) ≡ digits_value 10 l.digits;
  beyond : 10 ^ 19 ≤ l.value → 2 ^ 63 < digits_value 10 l.digits;
}
