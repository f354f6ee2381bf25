use Rattle.pref_script.proofs.Common.{arith, ◌∙◌, ap, exits, table_of}
use Rattle.pref_script.proofs.OutputLaws.{script-core-fault, script-table-fault}
use Rattle.pref_script.proofs.live_table.LiveTable.open.Goals as goal

pub returns-in_err-schema-clause-fault : goal.returns-in_err-schema-clause-fault
returns-in_err-schema-clause-fault c = grind (arith, script-table-fault, exits)

pub returns-in_err-machine-clause-fault : goal.returns-in_err-machine-clause-fault
returns-in_err-machine-clause-fault c =
    let full = rw c.as_slice.ensures.value at c.in_err-machine.ensures.full in
    let other = rw c.as_slice.ensures.value at c.in_err-machine.ensures.other in
    rw (exits c.from_residual-in_err-machine.result c.from_residual-in_err-machine.ensures.1) (λ bytes sections cut same. script-core-fault c.args.setup bytes sections _ c.in_err-machine.field-0.0 cut (ap table_of same ∙ c.in_ok-schema.ensures)
    (λ many. let e = full.1 many in cc) other)
