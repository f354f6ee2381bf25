use Rattle.std.proofs.Common.{arith}
use Rattle.prefq_c.proofs.EndLaws.{ends}
use Rattle.prefq_c.proofs.queries.prefq_table_scan.Goals as goal

pub returns : goal.returns
returns c = ends _ _ _ c.deref_mut.result.now _ _ _ _ _ (grind arith) (rw c.min.ensures at c.scan-returned.ensures) c.end.ensures
