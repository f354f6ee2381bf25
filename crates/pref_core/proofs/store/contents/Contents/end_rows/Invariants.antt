use Rattle.pref_core.proofs.Common.{take, ended_by, changes_of}
use Rattle.pref_core.proofs.FilledLaws.{EndedUpTo}
use Rattle.pref_core.proofs.store.contents.Contents.end_rows.Given as goal

abbrev pub invariant-loop-at : goal.invariant-loop-at
invariant-loop-at l = EndedUpTo l.initial.self l.self (ended_by (take l.at (changes_of l.call)))
