use Rattle.pref_sky.proofs.Common.{◌≡◌, take}
use Rattle.pref_sky.specs.Ranking.{marks}
use Rattle.pref_sky.proofs.ranking.ranked_of.Given as goal

abbrev pub invariant-loop-one : goal.invariant-loop-one
invariant-loop-one l = l.ranked.items ≡ marks (take l.one-index l.marked)
