use Rattle.std.proofs.Common.{arith}
use Rattle.prefq_c.proofs.EndLaws.{ends}
use Rattle.prefq_c.proofs.rows.prefq_table_insert_many.Goals as goal

pub returns : goal.returns
returns c = ends _ _ _ c.deref_mut.result.now _ _ _ _ _ (grind arith) c.insert_many-returned.ensures c.end.ensures
