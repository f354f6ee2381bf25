use Rattle.pref_term.proofs.Common.{◌≡◌, drop, in_same_group}
use Rattle.pref_term.proofs.keys.in_same_group.Given as goal

-- the columns that are left decide
abbrev pub invariant-loop-col : goal.invariant-loop-col
invariant-loop-col l = in_same_group (drop l.col-index l.columns) l.a l.b ≡ in_same_group l.columns l.a l.b
