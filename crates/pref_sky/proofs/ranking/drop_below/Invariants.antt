use Rattle.pref_sky.proofs.Common.{◌≡◌, ◌≤◌, ℕ, nat_lt, map, length, FiltersInPlace}
use Rattle.pref_sky.proofs.ranking.drop_below.Given as goal

-- what has a level of those so far is in front, and those to come are where they were
abbrev pub invariant-loop-place : goal.invariant-loop-place
invariant-loop-place g l =
    record {
      behind : l.count ≤ l.place;
      long : length l.elements.items ≡ length l.fn.elements.items;
      moved : (level : g.row.T.Denot → ℕ) → l.levels ≡ map level l.fn.elements.items → FiltersInPlace (λ x. nat_lt 0 (level x)) l.fn.elements.items l.elements.items l.count l.place;
    }
