use Rattle.pref_sky.proofs.Common.{◌-◌, ◌≡◌, ◌<◌, ◌≤◌, true, false, get_or, length}
use Rattle.pref_sky.specs.Leads.{second_of}
use Rattle.pref_sky.specs.Steps.{is_counted}
use Rattle.pref_sky.proofs.level.count_steps.Given as goal

abbrev pub invariant-halves : goal.invariant-halves
invariant-halves l =
    record {
      low : l.low ≤ l.high;
      high : l.high ≤ length l.steps;
      last : 0 < l.low → is_counted (second_of l.order l.lead) l.entries l.entry l.counted (get_or l.steps (l.low - 1) 0) ≡ true;
      next : l.high < length l.steps → is_counted (second_of l.order l.lead) l.entries l.entry l.counted (get_or l.steps l.high 0) ≡ false;
    }

abbrev pub decreases-halves : goal.decreases-halves
decreases-halves l = l.high - l.low
