use Rattle.pref_table.proofs.Common.{◌≡◌, ◌∙◌, ◌<◌, ◌+◌, ◌-◌, get_or, length, sym, ap, subst, arith, w64, starts_with_minus, without_leading_sign, to_z-of_z, fits_cell, signed_by}
use Rattle.pref_table.specs.Fields.{AreLeadingDigits}
use Rattle.pref_table.proofs.FieldsFacts.{comma_there, leading_within, plain_is, small-fits, without_sign_front}
use Rattle.pref_table.proofs.LeadingFacts.{leading_small}
use Rattle.pref_table.proofs.NumberFacts.{cell_fits}
use Rattle.pref_table.proofs.number.plain_field.Goals as goal

pub plain_signed-requires : goal.plain_signed-requires
plain_signed-requires c = leading_small _ c.leading_digits-magnitude.result.0 c.leading_digits-magnitude.result.1 c.leading_digits-magnitude.ensures

pub returns : goal.returns
returns c =
    let line = c.args.line.now in
    let digits = c.without_sign-digits.result.now in
    let value = c.leading_digits-magnitude.result.0 in
    let count = c.leading_digits-magnitude.result.1 in
    let size = length line - length digits + count in
    let front = without_sign_front line c.args.text.now digits c.without_sign-digits.ensures c.requires in
    let led = subst (λ ds. AreLeadingDigits 18 ds value count) c.without_sign-digits.ensures (leading_within 18 digits _ value count front (omega arith) c.leading_digits-magnitude.ensures) in
    let behind : size ≡ length line - length (without_leading_sign line) + count = ap (λ ds. length line - length ds + count) c.without_sign-digits.ensures in
    let comma : size < length line → get_or line size 0 ≡ 44 = comma_there size (length line) (get_or line size 0) (sym c.ends_after.ensures ∙ c.if-not-ends_after.false) in
    let number : c.plain_signed.result ≡ signed_by (starts_with_minus line) value = c.plain_signed.ensures ∙ ap (λ n. signed_by n value) c.is_negative.ensures in
    let fits = to_z-of_z w64 c.plain_signed.result (cell_fits _ (ap fits_cell number ∙ small-fits (starts_with_minus line) value (leading_small _ value count led))) in
    rw (fits, number) (plain_is line value count size (omega arith) led behind comma)
