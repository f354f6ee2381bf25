use Rattle.pref_term.proofs.Common.{◌≤◌, length, ahead, ReadsSomeSets}
use Rattle.pref_term.proofs.read.base_term.sets.Given as goal

-- the sets so far were read, and one more is due
abbrev pub invariant-loop-sets : goal.invariant-loop-sets
invariant-loop-sets l = record {
  so_far : ReadsSomeSets (ahead l.fn.cursor) l.sets.items (ahead l.place);
  shorter : length (ahead l.place) ≤ length (ahead l.fn.cursor);
}

abbrev pub decreases-loop-sets : goal.decreases-loop-sets
decreases-loop-sets l = length (ahead l.place)
