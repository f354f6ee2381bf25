use Rattle.pref_sky.proofs.Common.{◌≡◌, ◌<◌, ◌≤◌, ◌-◌, All, Ranked, cond, count_before, get_or, in_same_group, length, nat_lt, take, [], List, ℕ}
use Rattle.pref_sky.specs.Grouped.{IsCounted, entries, entry_at}
use Rattle.pref_sky.proofs.answers.choose.Given as goal

-- what is to be chosen at a place
abbrev pub choice : List ℕ → ℕ → List Ranked → ℕ → ℕ
choice columns k ranked place = let r = get_or ranked place (record { level = 0; id = 0; row = [] }) in cond (nat_lt (count_before (in_same_group columns) ranked r) k) 1 0

-- the places that came so far are decided, and what stands in front of the last of them is counted
abbrev pub invariant-loop-at : goal.invariant-loop-at
invariant-loop-at l =
    record {
      long : length l.chosen.items ≡ length l.ranked;
      within : (l.front.group ≤ l.front.level) × (l.front.level ≤ l.at);
      counted : 0 < l.at → IsCounted l.columns (entries l.placed) (entry_at l.placed (l.at - 1)) l.front;
      decided : All (λ p. get_or l.chosen.items p.place 0 ≡ choice l.columns l.k l.ranked p.place) (take l.at l.placed);
    }
