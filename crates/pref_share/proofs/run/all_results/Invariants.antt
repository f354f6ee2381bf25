use Rattle.pref_share.proofs.Common.{◌≡◌, ◌++◌, map, Ok, into_iter_items}
use Rattle.pref_share.proofs.run.all_results.Given as goal

abbrev pub invariant-loop-worked : goal.invariant-loop-worked
invariant-loop-worked g l = (map Ok l.list.items ≡ l.yielded) × (l.yielded ++ into_iter_items l.worked-iterator ≡ l.fn.all.items)
