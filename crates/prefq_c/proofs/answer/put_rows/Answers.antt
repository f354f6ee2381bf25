use Rattle.std.proofs.Common.{arith, ◌∙◌, ◌++◌, ap, length, sym, take}
use Rattle.std.proofs.lemmas.Slice.{take-put_mid}
use Rattle.prefq_c.proofs.NumbersLaws.{numbers-more, numbers-whole, row_ends, row_inside}
use Rattle.prefq_c.proofs.answer.put_rows.Goals as goal

pub loop-ranked-preserved : goal.loop-ranked-preserved
loop-ranked-preserved c =
    let (same, is, numbers) = c.loop-ranked.invariant in
    let inside = row_inside c.args.width c.loop-ranked.ranked-index (length c.args.rows.now) c.loop-ranked-test.true in
    let put = take-put_mid c.loop-ranked.at _ c.loop-ranked.numbers c.put_row.new.numbers _ (grind arith) (omega (arith, inside, is, same, c.requires.room)) in (
      grind arith,
      omega (arith, is, row_ends c.args.width c.loop-ranked.ranked-index),
      numbers-more c.args.width _ _ _ c.args.rows.now c.loop-ranked.ranked-index c.ranked-item.result c.ranked-item.result c.loop-ranked-test.true (sym c.ranked-item.is) numbers (put ∙ ap (λ row. take c.loop-ranked.at c.loop-ranked.numbers ++ row) c.put_row.ensures),
    )

pub returns : goal.returns
returns c =
    let (same, is, numbers) = c.loop-ranked.invariant in
    numbers-whole c.args.width c.loop-ranked.at _ _ c.args.rows.now c.loop-ranked.ranked-index (omega arith) (grind (arith, is, same, c.requires.room)) numbers
