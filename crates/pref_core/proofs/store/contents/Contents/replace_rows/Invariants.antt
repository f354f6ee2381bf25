use Rattle.pref_core.proofs.Common.{drop, replaced, changes_of}
use Rattle.pref_core.proofs.ReplacedLaws.{ReplacedUpTo}
use Rattle.pref_core.proofs.store.contents.Contents.replace_rows.Given as goal

abbrev pub invariant-loop-at : goal.invariant-loop-at
invariant-loop-at l = ReplacedUpTo l.initial.self l.self (drop l.at (changes_of l.op.call.now)) (drop l.at l.slots) (replaced l.initial.self.stamp (changes_of l.op.call.now) l.op.slots l.initial.self.slots)
