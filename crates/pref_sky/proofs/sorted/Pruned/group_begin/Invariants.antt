use Rattle.pref_sky.proofs.Common.{◌≤◌, ◌-◌, vec_len}
use Rattle.pref_sky.proofs.sorted.Pruned.group_begin.Given as goal

abbrev pub invariant-loop-low : goal.invariant-loop-low
invariant-loop-low l = l.high ≤ vec_len l.self.lowest

abbrev pub decreases-loop-low : goal.decreases-loop-low
decreases-loop-low l = l.high - l.low
