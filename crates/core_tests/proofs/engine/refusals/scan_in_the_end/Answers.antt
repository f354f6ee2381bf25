use Rattle.std.proofs.Common.{◌≡◌, ℕ, List, Option, Ok, Err, Result, sym, subst}
use Rattle.pref_core.specs.declared.store.version.Version.{Version}
use Rattle.pref_core.specs.declared.fault.CoreFault.{CoreFault}
use Rattle.pref_core.specs.Scans.{Scan, NextIsNew, Scans}
use Rattle.core_tests.proofs.engine.refusals.scan_in_the_end.Goals as goal

-- a refused scan changes nothing, so the block is still new
still_new : (before after : Scan) (slots : List (Option Version)) (result : Result ℕ CoreFault) (fault : CoreFault) → NextIsNew before slots → Scans before slots result after → result ≡ Err fault → NextIsNew after slots
still_new before after slots (Ok left) fault new scans is = absurd (cc)
still_new before after slots (Err why) fault new scans is = subst (λ (s : Scan). NextIsNew s slots) (sym scans.0) new

pub scan-requires-in-Err : goal.scan-requires-in-Err
scan-requires-in-Err g c = still_new c.args.query.now c.scan.new.self c.args.store.now.slots c.scan.result c.in-Err.fault c.requires c.scan.ensures c.in-Err.is
