use Rattle.std.proofs.Common.{arith, ◌≡◌, ◌∙◌, of_z, pos, take, to_z}
use Rattle.std.specs.Int.{w64, cast_signed}
use Rattle.std.proofs.lemmas.Int.{to_z-of_z}
use Rattle.std.proofs.lemmas.List.{length-drop, length-set, length-take}
use Rattle.prefq_c.proofs.NumbersLaws.{row-put}
use Rattle.prefq_c.proofs.answer.put_row.Goals as goal

pub returns : goal.returns
returns c =
    let level : to_z w64 (of_z w64 c.from.result) ≡ pos c.args.ranked.now.level = grind (arith, to_z-of_z) in
    let id : to_z w64 (of_z w64 c.cast_signed.result) ≡ cast_signed w64 c.args.ranked.now.id = grind (arith, to_z-of_z) in
    let values : c.copy_cells.new.numbers ≡ take c.args.width c.args.ranked.now.row = grind (arith, length-drop, length-set, length-take) in
    row-put c.args.numbers.now c.copy_cells.new.numbers _ _ (omega (arith, c.requires.room)) ∙ grind (arith, level, id, values)
