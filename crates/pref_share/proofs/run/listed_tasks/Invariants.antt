use Rattle.pref_share.proofs.Common.{◌≡◌, ◌++◌, [], map, All, into_iter_items}
use Rattle.pref_share.proofs.run.listed_tasks.Given as goal

abbrev pub invariant-loop-list : goal.invariant-loop-list
invariant-loop-list l = (map (λ listed. into_iter_items listed.acts) l.tasks.items ≡ map (λ list. list.items) l.yielded) × All (λ listed. listed.replies.items ≡ []) l.tasks.items × (l.yielded ++ into_iter_items l.list-iterator ≡ l.fn.acts.items)
