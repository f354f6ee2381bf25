use Rattle.pref_term.proofs.Common.{◌≤◌, length, ahead, ReadsSome}
use Rattle.pref_term.proofs.read.base_term.numbers.Given as goal

-- the numbers so far were read, and one more is due
abbrev pub invariant-loop-set : goal.invariant-loop-set
invariant-loop-set l = record {
  so_far : ReadsSome l.close (ahead l.fn.cursor) l.set.items (ahead l.place);
  shorter : length (ahead l.place) ≤ length (ahead l.fn.cursor);
}

abbrev pub decreases-loop-set : goal.decreases-loop-set
decreases-loop-set l = length (ahead l.place)
