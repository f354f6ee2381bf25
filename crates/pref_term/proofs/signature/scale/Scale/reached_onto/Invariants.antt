use Rattle.pref_term.proofs.Common.{◌≡◌, ◌≤◌, take}
use Rattle.pref_term.proofs.SignatureMarks.{beyond}
use Rattle.pref_term.proofs.signature.scale.Scale.reached_onto.Given as goal

-- of the marks so far those beyond the number are counted
abbrev pub invariant-loop-mark : goal.invariant-loop-mark
invariant-loop-mark l = (l.beyond ≤ l.mark-index) × (l.beyond ≡ beyond l.number (take l.mark-index l.marks))
