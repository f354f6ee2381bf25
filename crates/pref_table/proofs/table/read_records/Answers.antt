use Rattle.pref_table.proofs.Common.{Ok, Err, err_from_is_err_and, default_config, records}
use Rattle.pref_table.proofs.TablesFacts.{fails_on, table-rows}
use Rattle.pref_table.proofs.table.read_records.Goals as goal

pub returns-in_err-rows : goal.returns-in_err-rows
returns-in_err-rows c =
    let left = records default_config c.args.text.now in
    let fault = c.in_err-rows.field-0.0 in
    let schema = c.in_ok-schema.schema in
    let p = err_from_is_err_and c.from_residual-in_err-rows.result c.from_residual-in_err-rows.ensures.1 in
    rw (p.1, p.2) (fails_on fault _ _ (rw (c.new.ensures.items, c.in_ok-schema.ensures.rest) at c.in_err-rows.ensures) (table-rows left schema (Err fault) c.in_ok-schema.ensures.names))

pub returns : goal.returns
returns c =
    let left = records default_config c.args.text.now in
    table-rows left c.in_ok-schema.schema (Ok c.in_ok-rows.rows.items) c.in_ok-schema.ensures.names (rw (c.new.ensures.items, c.in_ok-schema.ensures.rest) at c.in_ok-rows.ensures)
