use Rattle.pref_term.proofs.Common.{◌≡◌, ◌<◌, ℕ, drop, get_or}
use Rattle.pref_term.specs.Built.{column_fault, first_among}
use Rattle.pref_term.proofs.built.check_group.Given as goal

-- the columns so far, and that the first fault is one of the rest
abbrev pub invariant-loop-col : goal.invariant-loop-col
invariant-loop-col l = record {
  found : (k d : ℕ) → k < l.col-index → get_or l.group k d < 16;
  first : first_among column_fault l.group ≡ first_among column_fault (drop l.col-index l.group);
}
