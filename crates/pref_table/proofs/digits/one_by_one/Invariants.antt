use Rattle.pref_table.specs.Fields.{AreLeadingDigits}
use Rattle.pref_table.proofs.digits.one_by_one.Given as goal

-- the bytes so far are digits, and the value is theirs
abbrev pub invariant-loop-place : goal.invariant-loop-place
invariant-loop-place l = AreLeadingDigits l.place l.text l.value l.place
