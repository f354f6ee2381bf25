use Rattle.pref_sky.proofs.Common.{◌≡◌, ◌≤◌, ◌-◌, entry_order, levels, rest}
use Rattle.pref_sky.proofs.passes_levels.levels_by_passes.Given as goal

abbrev pub invariant-each_level : goal.invariant-each_level
invariant-each_level g l =
    let over = entry_order (g.D.Dominance.order l.dominance) in
    record {
      found : l.ranked.items ≡ levels over l.entries l.level;
      left : l.left.items ≡ rest over l.entries l.level;
      upto : l.level ≤ l.cut;
    }

abbrev pub decreases-each_level : goal.decreases-each_level
decreases-each_level g l = l.cut - l.level
