use Rattle.std.proofs.Common.{◌≡◌, ◌∙◌, ◌-◌, arith, ap, drop, subst, refl, take, Err, rules}
use Rattle.pref_table.specs.Rows.{padded}
use Rattle.prefq_c.specs.Acts.{InsertsRow, first_id, width_of}
use Rattle.prefq_c.specs.Openings.{HaveRows, rows_in}
use Rattle.prefq_c.proofs.EachLaws.{GoesOn, all_done, none_yet, one_more, one_refused}
use Rattle.prefq_c.proofs.RowsLaws.{have_first, have_rest, rows_next, rows_none}
use Rattle.prefq_c.proofs.table.Table.insert_rows.Goals as goal

pub loop-row-init : goal.loop-row-init
loop-row-init c =
    let all : c.args.count ≡ c.args.count - 0 = omega arith in
    let width = width_of c.args.self.now in
    let numbers = c.args.numbers.now in
    let rows = rows_in width c.args.count numbers in
    subst (λ k. HaveRows width k numbers × (width ≡ width) × GoesOn InsertsRow first_id 0 rows c.args.self.now 0 (rows_in width k numbers) c.args.self.now) all
    (c.requires, refl, none_yet InsertsRow first_id 0 rows c.args.self.now)

pub row_of-row-requires : goal.row_of-row-requires
row_of-row-requires c few =
    let (have, same, goes) = c.loop-row.invariant in
    let some = have_first (width_of c.args.self.now) (c.args.count - c.loop-row._row) c.loop-row.left.now (omega (arith, c.loop-row-test.true)) have in
    omega (arith, some, same)

-- also of the numbers of all rows: whose row comes next is a matter of the invariant
pub behind-left-requires : goal.behind-left-requires
behind-left-requires c =
    let (have, same, goes) = c.loop-row.invariant in
    let some = have_first (width_of c.args.self.now) (c.args.count - c.loop-row._row) c.loop-row.left.now (omega (arith, c.loop-row-test.true)) have in
    let all = have_first (width_of c.args.self.now) c.args.count c.args.numbers.now (omega (arith, c.loop-row-test.true)) c.requires in
    let kept : width_of c.insert_row.new.self ≡ width_of c.loop-row.self = ap width_of c.in_ok-id.ensures.0 in
    omega (arith, some, all, same, kept)

pub loop-row-preserved : goal.loop-row-preserved
loop-row-preserved c =
    let (have, same, goes) = c.loop-row.invariant in
    let width = width_of c.args.self.now in
    let left = c.loop-row.left.now in
    let kept : width_of c.insert_row.new.self ≡ width = ap width_of c.in_ok-id.ensures.0 ∙ same in
    let behind = subst (λ w. c.behind-left.result.now ≡ drop w left) kept c.behind-left.ensures in
    let row = c.row_of-row.ensures ∙ ap (λ w. padded (take w left)) same in
    let next = rows_next width c.args.count c.loop-row._row left c.loop-row-test.true in
    let goes_on = one_more InsertsRow first_id 0 _ c.args.self.now c.loop-row.first c.in_ok-id.id _ _ _ c.loop-row.self c.insert_row.new.self goes next (rw row at c.in_ok-id.ensures) in
    (rw behind (have_rest width c.args.count c.loop-row._row left c.loop-row-test.true have), kept, rw (behind, c.first_id-first.ensures) goes_on)

pub returns-in_err-id : goal.returns-in_err-id
returns-in_err-id c =
    let (have, same, goes) = c.loop-row.invariant in
    let width = width_of c.args.self.now in
    let left = c.loop-row.left.now in
    let row = c.row_of-row.ensures ∙ ap (λ w. padded (take w left)) same in
    let next = rows_next width c.args.count c.loop-row._row left c.loop-row-test.true in
    let is : c.from_residual.result ≡ Err c.in_err-id.field-0.0 = search rules in
    rw is (one_refused InsertsRow first_id 0 _ c.args.self.now c.loop-row.first c.in_err-id.field-0.0 _ _ _ c.loop-row.self c.insert_row.new.self goes next (rw row at c.in_err-id.ensures))

pub returns : goal.returns
returns c =
    let (have, same, goes) = c.loop-row.invariant in
    all_done InsertsRow first_id 0 _ c.args.self.now c.loop-row.first _ _ goes (rows_none (width_of c.args.self.now) c.args.count c.loop-row._row c.loop-row.left.now (omega arith))
