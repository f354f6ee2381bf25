use Rattle.pref_table.proofs.Common.{◌∙◌, ◌<◌, [], Ok, length, drop_more, ap, sym, arith, refl, err_from_is_err_and}
use Rattle.pref_table.proofs.NumberedFacts.{all_from-none}
use Rattle.pref_table.proofs.RowsFacts.{read_more, row_of-all, row_of-fails, row_of-width}
use Rattle.pref_table.proofs.row.row_of_fields.Goals as goal

pub returns-then-count-width : goal.returns-then-count-width
returns-then-count-width g c texts yields counted = sym (row_of-width (length c.args.schema.now) c.args.row texts (λ e. c.if-count-width.true (omega (arith, e))))

pub loop-col-init : goal.loop-col-init
loop-col-init g c texts yields counted = (yields, record { size = search arith; seen = all_from-none _ 1; zeros = refl })

pub returns-in_default : goal.returns-in_default
returns-in_default g c texts yields counted =
    let inside : c.loop-col.col < length texts = omega arith in
    let left = rw (drop_more texts c.loop-col.col [] inside) at (c.loop-col.invariant texts yields counted).0 in
    absurd (left.0 c.next.new.self c.in_default.ensures.steps)

pub returns-in_err-cells : goal.returns-in_err-cells
returns-in_err-cells g c texts yields counted =
    let inside : c.loop-col.col < length texts = omega arith in
    let so_far = c.loop-col.invariant texts yields counted in
    let left = rw (drop_more texts c.loop-col.col [] inside) at so_far.0 in
    let next = left.1 c.in-Some.field c.next.new.self c.in-Some.ensures.steps in
    let p = err_from_is_err_and c.from_residual.result c.from_residual.ensures.1 in
    rw (p.1, p.2) (sym (row_of-fails (length c.args.schema.now) c.args.row texts c.loop-col.cells c.loop-col.col c.in-Some.field.now _ (omega arith) inside
    next.0 so_far.1 (sym c.in_err-cells.ensures)))

pub loop-col-preserved : goal.loop-col-preserved
loop-col-preserved g c texts yields counted =
    let inside : c.loop-col.col < length texts = omega arith in
    let so_far = c.loop-col.invariant texts yields counted in
    let left = rw (drop_more texts c.loop-col.col [] inside) at so_far.0 in
    let next = left.1 c.in-Some.field c.next.new.self c.in-Some.ensures.steps in
    (next.1, read_more c.args.row texts c.loop-col.cells c.loop-col.col c.in-Some.field.now c.in_ok-cells.field-0 inside (omega arith) next.0 (sym c.in_ok-cells.ensures) so_far.1)

pub returns : goal.returns
returns g c texts yields counted =
    ap Ok c.of_cells.ensures
    ∙ sym (row_of-all (length c.args.schema.now) c.args.row texts c.loop-col.cells c.loop-col.col (omega arith) (omega arith) (omega arith) (c.loop-col.invariant texts yields counted).1)
