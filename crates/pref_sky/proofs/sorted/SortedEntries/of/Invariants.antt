use Rattle.pref_sky.proofs.Common.{◌≡◌, ◌++◌, List, length, Entry, own_levels}
use Rattle.pref_sky.proofs.sorted.SortedEntries.of.Given as goal

abbrev pub invariant-each_piece : goal.invariant-each_piece
invariant-each_piece l =
    record {
      order : l.held.pruned.order ≡ l.fn.order;
      levels : (done : List Entry) × (l.entries ≡ done ++ l.rest) × (own_levels l.held.pruned.order (l.held.pruned.entries.items ++ l.held.recent.items) ≡ own_levels l.held.pruned.order done);
    }

abbrev pub decreases-each_piece : goal.decreases-each_piece
decreases-each_piece l = length l.rest
