use Rattle.pref_table.proofs.Common.{refl}
use Rattle.std.proofs.Common.{cond, leb}
use Rattle.std.proofs.lemmas.Simd.{length-chunk, splat_is_map, zip2_of_maps, zip2_splat}
use Rattle.std.specs.Simd.Lanes.{chunk}
use Rattle.pref_table.proofs.DigitsFacts.{digits_counted}
use Rattle.pref_table.proofs.digits.count_digits.Goals as goal

pub returns : goal.returns
returns c =
    let text = c.args.text.now in
    let front = chunk 0 8 text in
    let long = length-chunk 0 8 text c.requires in
    digits_counted text _ _ c.lowest_of_eight.result c.requires c.type_inv.text
    (zip2_of_maps (λ a b. cond (leb a b) 255 0) _ _ front (splat_is_map front 8 10 long) (zip2_splat _ front 8 48 long)) c.lowest_of_eight.ensures refl
