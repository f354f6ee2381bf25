use Rattle.pref_sky.proofs.Common.{◌≡◌, map, take, level_of, own_order}
use Rattle.pref_sky.specs.Leads.{HasPassed}
use Rattle.pref_sky.proofs.sweep.find_levels.Given as goal

abbrev pub invariant-loop-place : goal.invariant-loop-place
invariant-loop-place l =
    record {
      passed : HasPassed l.order l.lead l.entries l.place l.sweep;
      found : l.levels.items ≡ take l.place (map (level_of (own_order l.order) l.entries l.order.cut) l.entries);
    }
