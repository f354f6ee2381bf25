use Rattle.pref_sky.proofs.Common.{◌≡◌, map, take, entry_of}
use Rattle.pref_sky.proofs.entry.entries_of.Given as goal

abbrev pub invariant-loop-entry : goal.invariant-loop-entry
invariant-loop-entry l = l.entries.items ≡ map entry_of (take l.entry-index l.ranked)
