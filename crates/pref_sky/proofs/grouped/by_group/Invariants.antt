use Rattle.pref_sky.proofs.Common.{◌≡◌, ◌<◌, All, ℕ, get_or, length, map, take}
use Rattle.pref_sky.specs.Grouped.{entries}
use Rattle.pref_sky.specs.declared.grouped.Placed.{Placed}
use Rattle.pref_sky.proofs.grouped.by_group.Given as goal

-- those that came so far, each with its place
abbrev pub invariant-loop-place : goal.invariant-loop-place
invariant-loop-place l =
    (entries l.placed.items ≡ take l.place l.ranked)
    × All (λ p. (p.place < length l.ranked) × (get_or l.ranked p.place p.entry.now ≡ p.entry.now)) l.placed.items
    × ((k : ℕ) → k < l.place → get_or (map (λ (p : Placed). p.place) l.placed.items) k 0 ≡ k)
