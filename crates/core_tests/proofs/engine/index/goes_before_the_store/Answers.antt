use Rattle.std.proofs.Common.{refl}
use Rattle.core_tests.proofs.engine.index.goes_before_the_store.Goals as goal

pub reindex-requires-clause-plan : goal.reindex-requires-clause-plan
reindex-requires-clause-plan g c = record { by = refl; what = refl; next = c.in-Ok.ensures.exact.next; fits = c.in-Ok.ensures.exact.fits }
