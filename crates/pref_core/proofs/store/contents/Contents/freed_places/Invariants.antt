use Rattle.pref_core.proofs.Common.{take, ended_by, changes_of}
use Rattle.pref_core.proofs.FreedLaws.{FreesUpTo}
use Rattle.pref_core.proofs.store.contents.Contents.freed_places.Given as goal

abbrev pub invariant-loop-at : goal.invariant-loop-at
invariant-loop-at l = FreesUpTo l.self (ended_by (take l.at (changes_of l.call))) l.freed
