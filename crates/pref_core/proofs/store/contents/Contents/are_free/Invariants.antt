use Rattle.pref_core.proofs.Common.{◌≡◌, ◌≤◌, suc, ◌∷◌, [], map, length, drop, are_free, close, begins, ended}
use Rattle.pref_core.proofs.store.contents.Contents.are_free.Given as goal

abbrev pub invariant-loop-place : goal.invariant-loop-place
invariant-loop-place l = record {
  rest : are_free (suc l.self.stamp ∷ begins l.self.callers) (map (close (ended l.op.call.now) (suc l.self.stamp)) l.self.slots) l.earlier (drop l.place-index l.place-items) ≡ are_free (suc l.self.stamp ∷ begins l.self.callers) (map (close (ended l.op.call.now) (suc l.self.stamp)) l.self.slots) [] l.op.slots;
  few : length l.earlier ≤ l.place-index;
}
