use Rattle.std.proofs.Common.{◌≡◌, arith}
use Rattle.prefq_c.proofs.EndLaws.{ends}
use Rattle.prefq_c.proofs.rows.prefq_table_room.Goals as goal

pub returns : goal.returns
returns c =
    let same : c.deref.result.now ≡ c.take-table.result.value = grind arith in
    ends _ _ _ c.take-table.result.value _ _ _ _ _ (grind arith) (rw same at c.room-returned.ensures) c.end.ensures
