use Rattle.std.proofs.Common.{refl, sym, subst}
use Rattle.pref_core.specs.Indexes.{IsIndexOf}
use Rattle.core_tests.proofs.engine.index.done.Goals as goal

pub reindex-requires-clause-plan : goal.reindex-requires-clause-plan
reindex-requires-clause-plan c = record { by = refl; what = refl; next = c.in-Ok.ensures.exact.next; fits = c.in-Ok.ensures.exact.fits }

pub perform-requires : goal.perform-requires
perform-requires c = record { by = refl; what = refl; next = c.in-Ok.ensures.exact.next; fits = c.in-Ok.ensures.exact.fits }

pub returns : goal.returns
returns c = subst (λ s. IsIndexOf s c.reindex.new.index) (sym c.perform.ensures.exact) c.in_ok-reindex.ensures.after
