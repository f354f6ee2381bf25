use Rattle.pref_sky.proofs.Common.{◌≡◌, ◌<◌, length, get_or, All, Item}
use Rattle.pref_sky.proofs.sorted.items_of_level.Given as goal

abbrev pub invariant-loop-place : goal.invariant-loop-place
invariant-loop-place l = All (λ (item : Item). (item.place < length l.entries) × (get_or l.levels item.place 0 ≡ l.level)) l.items.items
