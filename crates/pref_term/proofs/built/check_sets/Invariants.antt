use Rattle.pref_term.proofs.Common.{◌≡◌, ◌<◌, ℕ, ℤ, List, drop, get_or, IsWritableSet}
use Rattle.pref_term.specs.Built.{first_among, set_fault}
use Rattle.pref_term.proofs.built.check_sets.Given as goal

-- the sets so far, and that the first fault is one of the rest
abbrev pub invariant-loop-set : goal.invariant-loop-set
invariant-loop-set l = record {
  found : (k : ℕ) (d : List ℤ) → k < l.set-index → IsWritableSet (get_or l.set-items k d);
  first : first_among (set_fault l.col) l.set-items ≡ first_among (set_fault l.col) (drop l.set-index l.set-items);
}
