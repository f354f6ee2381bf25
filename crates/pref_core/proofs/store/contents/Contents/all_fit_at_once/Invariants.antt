use Rattle.pref_core.proofs.FitAtOnceLaws.{FitsUpTo}
use Rattle.pref_core.proofs.store.contents.Contents.all_fit_at_once.Given as goal

abbrev pub invariant-loop-at : goal.invariant-loop-at
invariant-loop-at l = FitsUpTo l.self l.call l.slots l.at l.used
