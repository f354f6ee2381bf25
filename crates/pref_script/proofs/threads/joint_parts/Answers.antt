use Rattle.pref_script.proofs.Common.{append-nil, arith, refl, sym, texts}
use Rattle.std.proofs.lemmas.List.FromFn.{length-map-range_with_len}
use Rattle.pref_share.specs.Standing.{newcomer}
use Rattle.pref_script.proofs.threads.joint_parts.Goals as goal

pub run_tasks-done-requires-clause-lists : goal.run_tasks-done-requires-clause-lists
run_tasks-done-requires-clause-lists g c κs within = grind (arith, length-map-range_with_len newcomer)

pub run_tasks-done-requires-clause-fresh : goal.run_tasks-done-requires-clause-fresh
unfolding texts
run_tasks-done-requires-clause-fresh g c κs within = λ i d lt. record { client = refl; schema = refl; text = sym (append-nil _); accepted = λ _ rest. rest }
