use Rattle.std.proofs.Common.{◌≡◌, ◌∷◌, ◌++◌, [], arith, length, take}
use Rattle.pref_table.specs.Rows.{padded}
use Rattle.prefq_c.proofs.RowsLaws.{rows_step}
use Rattle.prefq_c.proofs.table.cut_rows.Goals as goal

pub loop-row-preserved : goal.loop-row-preserved
loop-row-preserved c =
    let pushed : c.push.new.self.items ≡ c.loop-row.rows.items ++ padded (take (length c.args.schema.now) c.loop-row.left.now) ∷ [] = grind (arith) in
    rows_step (length c.args.schema.now) c.args.count c.loop-row._row c.loop-row.left.now _ _ _ _ (omega (arith, c.loop-row-test.true)) c.behind-left.ensures c.loop-row.invariant pushed
