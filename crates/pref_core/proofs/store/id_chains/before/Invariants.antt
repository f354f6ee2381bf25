use Rattle.pref_core.proofs.Common.{◌^◌, ◌<◌, length, slice_index, ids_of, home_of, id_at, IsOnWay, rank}
use Rattle.pref_core.proofs.store.id_chains.before.Given as goal

abbrev pub invariant-along : goal.invariant-along
invariant-along l =
    record {
      way : IsOnWay (2 ^ 64) (length l.slots.slots) (home_of (length l.slots.slots)) (id_at (ids_of l.slots.stamp l.slots.slots)) l.id l.node;
      inside : l.node < length l.next;
    }

abbrev pub decreases-along : goal.decreases-along
decreases-along l = rank (id_at (ids_of l.slots.stamp l.slots.slots) (slice_index l.next l.node))
