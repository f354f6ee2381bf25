use Rattle.pref_sky.proofs.Common.{◌≡◌, drop, earlier_in}
use Rattle.pref_sky.proofs.grouped.compare_groups.Given as goal

-- the columns so far see no difference
abbrev pub invariant-loop-col : goal.invariant-loop-col
invariant-loop-col l = (earlier_in (drop l.col-index l.columns) l.a l.b ≡ earlier_in l.columns l.a l.b) × (earlier_in (drop l.col-index l.columns) l.b l.a ≡ earlier_in l.columns l.b l.a)
