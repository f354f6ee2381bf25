use Rattle.pref_sky.proofs.Common.{◌≡◌, ◌≤◌, ◌+◌, [], length, entry_order, Passing}
use Rattle.pref_sky.proofs.best.best_rows_passes.Given as goal

abbrev pub invariant-each_pass : goal.invariant-each_pass
invariant-each_pass g l =
    record {
      passing : Passing (entry_order (g.D.Dominance.order l.dominance)) l.entries l.best.items (length l.held.early + length l.input.items) l.held [] l.input.items;
      ends : length l.input.items ≡ 0 → length l.held.early ≡ 0;
      count : l.passes + (length l.held.early + length l.input.items) ≤ length l.entries;
      first : l.passes ≡ 0 → length l.input.items ≡ length l.entries;
    }

abbrev pub decreases-each_pass : goal.decreases-each_pass
decreases-each_pass g l = length l.held.early + length l.input.items
