use Rattle.pref_table.proofs.Common.{◌∙◌, length, arith, Ok, Err, err_from_is_err_and, default_config, records}
use Rattle.pref_table.proofs.LinesFacts.{records-none_left, strip-line_end, table-lines, table-no_names}
use Rattle.pref_table.proofs.TablesFacts.{fails_on, rows_with_none}
use Rattle.pref_table.proofs.table.read_lines.Goals as goal

pub returns-in_err-schema : goal.returns-in_err-schema
returns-in_err-schema c =
    let header = c.args.header.now in
    let fault = c.in_err-schema.field-0.0 in
    let p = err_from_is_err_and c.from_residual.result c.from_residual.ensures.1 in
    rw (p.1, p.2) (fails_on fault _ _ (c.in_err-schema.ensures.names)
    (table-no_names header c.args.lines.now c.requires.plain c.requires.ends fault))

pub returns-then-left-le1 : goal.returns-then-left-le1
returns-then-left-le1 c =
    let header = c.args.header.now in
    let schema = c.in_ok-schema.schema in
    let left = c.in_ok-rows.left.now in
    let rows = c.in_ok-rows.rows.items in
    let names = c.in_ok-schema.ensures.names in
    let plain = rw c.width.ensures.value at c.in_ok-rows.ensures.rows in
    table-lines header c.args.lines.now c.requires.plain c.requires.ends schema (Ok rows) names
    (plain ∙ rows_with_none (length schema) rows (records default_config left) (records-none_left left c.in_ok-rows.ensures.left (omega arith)))

pub records_of-requires-2 : goal.records_of-requires-2
records_of-requires-2 c = strip-line_end c.in_ok-rows.left.now c.in_ok-rows.ensures.left

pub returns-in_err-rows-2 : goal.returns-in_err-rows-2
returns-in_err-rows-2 c =
    let header = c.args.header.now in
    let schema = c.in_ok-schema.schema in
    let fault = c.in_err-rows-2.field-0.0 in
    let names = c.in_ok-schema.ensures.names in
    let plain = rw c.width.ensures.value at c.in_ok-rows.ensures.rows in
    let p = err_from_is_err_and c.from_residual-in_err-rows-2.result c.from_residual-in_err-rows-2.ensures.1 in
    rw (p.1, p.2) (fails_on fault _ _ c.in_err-rows-2.ensures
    (λ e. table-lines header c.args.lines.now c.requires.plain c.requires.ends schema (Err fault) names (plain ∙ e)))

pub returns : goal.returns
returns c =
    let header = c.args.header.now in
    let schema = c.in_ok-schema.schema in
    let names = c.in_ok-schema.ensures.names in
    let plain = rw c.width.ensures.value at c.in_ok-rows.ensures.rows in
    table-lines header c.args.lines.now c.requires.plain c.requires.ends schema (Ok c.in_ok-rows-2.rows.items) names
    (plain ∙ c.in_ok-rows-2.ensures)
