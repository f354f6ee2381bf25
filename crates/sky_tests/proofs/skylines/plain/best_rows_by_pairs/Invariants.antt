use Rattle.std.proofs.Common.{◌≡◌, filter, take, not}
use Rattle.pref_sky.specs.Best.{is_beaten}
use Rattle.pref_sky.specs.Levels.{entry_order}
use Rattle.sky_tests.proofs.skylines.plain.best_rows_by_pairs.Given as goal

-- what is found is what nothing is over, as far as the loop has come
abbrev pub invariant-loop-entry : goal.invariant-loop-entry
invariant-loop-entry g l =
    l.unbeaten.items ≡ filter (λ e. not (is_beaten (entry_order (g.D.Dominance.order l.dominance)) l.entries e)) (take l.entry-index l.entries)
