use Rattle.pref_sky.proofs.Common.{◌≡◌, ◌++◌, at_level, map, take}
use Rattle.pref_sky.proofs.passes_levels.push_level.Given as goal

abbrev pub invariant-loop-entry : goal.invariant-loop-entry
invariant-loop-entry l = l.ranked.items ≡ l.initial.ranked.items ++ map (at_level l.level) (take l.entry-index l.entries)
