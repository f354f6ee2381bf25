use Rattle.pref_term.proofs.Common.{◌≡◌, ◌++◌, take}
use Rattle.pref_term.proofs.keys.push_copies.Given as goal

-- the keys so far are copied
abbrev pub invariant-loop-other : goal.invariant-loop-other
invariant-loop-other l = l.keys.items ≡ l.fn.keys.items ++ take l.other-index l.others
