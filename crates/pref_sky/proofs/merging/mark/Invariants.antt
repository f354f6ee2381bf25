use Rattle.pref_sky.proofs.Common.{◌≡◌, ◌<◌, ◌++◌, ℕ, length, get_or, map, take, Entry, entry_at}
use Rattle.pref_sky.specs.Ranking.{marks, with_level}
use Rattle.pref_sky.proofs.merging.mark.Given as goal

abbrev pub invariant-loop-place : goal.invariant-loop-place
invariant-loop-place l =
    (level : Entry → ℕ) → ((k : ℕ) → k < length l.entries → get_or l.levels k 0 ≡ level (entry_at l.entries k)) → marks l.marked.items ≡ marks l.fn.marked.items ++ map (with_level level) (take l.place l.entries)
