use Rattle.pref_sky.proofs.Common.{◌≡◌, ◌+◌, ◌-◌, ◌<◌, ◌≤◌, comes_after, entry_at, false, length, own_order, suc, true}
use Rattle.pref_sky.specs.Leads.{IsSweptTo, mark_of}
use Rattle.pref_sky.proofs.sweep.Sweep.count_above.Given as goal

abbrev pub invariant-halves : goal.invariant-halves
invariant-halves l =
    record {
      swept : IsSweptTo l.order l.lead l.entries l.place l.signature l.self;
      ordered : l.low ≤ l.high;
      within : l.high ≤ length l.self.levels.items;
      above : comes_after (own_order l.order) l.entries l.low (entry_at l.entries l.place) ≡ true;
      no_more : l.high < l.order.cut → comes_after (own_order l.order) l.entries (suc l.high) (entry_at l.entries l.place) ≡ false;
      from : mark_of l.lead l.place ≤ l.low + 1;
    }

abbrev pub decreases-halves : goal.decreases-halves
decreases-halves l = l.high - l.low
