use Rattle.pref_share.proofs.Common.{◌≡◌, ◌++◌, map, first_fault, into_iter_items}
use Rattle.pref_share.proofs.run.tasks_of.Given as goal

abbrev pub invariant-loop-worked : goal.invariant-loop-worked
invariant-loop-worked g l = record {
  tasks : l.tasks.items ++ map (λ worked. worked.task) (into_iter_items l.worked-iterator) ≡ map (λ worked. worked.task) l.fn.all.items;
  stopped : first_fault (map (λ worked. worked.stopped) (into_iter_items l.worked-iterator)) ≡ first_fault (map (λ worked. worked.stopped) l.fn.all.items);
}
