use Rattle.pref_term.proofs.Common.{◌≡◌, take}
use Rattle.pref_term.proofs.term.NumberSets.copy.Given as goal

-- the sets so far
abbrev pub invariant-loop-set : goal.invariant-loop-set
invariant-loop-set l = l.sets.items ≡ take l.set-index l.set-items
