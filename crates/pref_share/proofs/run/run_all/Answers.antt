use Rattle.pref_share.proofs.Common.{sendable, ◌∙◌, ap, map}
use Rattle.pref_share.proofs.ReportsLaws.{replies_of_lists}
use Rattle.pref_share.proofs.SendLaws.{listed_send}
use Rattle.pref_share.proofs.run.run_all.Goals as goal

pub run_tasks-requires-send-T : goal.run_tasks-requires-send-T
run_tasks-requires-send-T g c κs within = search (sendable, listed_send)

pub returns-clause-joint : goal.returns-clause-joint
returns-clause-joint g c =
    let ran = c.in_ok-done.ensures.ran in
    rw (ap (map _) c.in_ok-replies.ensures ∙ replies_of_lists c.in_ok-tasks.tasks.items c.in_ok-done.done.items ran.replies ran.taken, ← c.in_ok-tasks.ensures.acts, c.requires.clients) ran.joint

pub returns-clause-sequential : goal.returns-clause-sequential
returns-clause-sequential g c =
    let ran = c.in_ok-done.ensures.ran in
    rw (ap (map _) c.in_ok-replies.ensures ∙ replies_of_lists c.in_ok-tasks.tasks.items c.in_ok-done.done.items ran.replies ran.taken, ← c.in_ok-tasks.ensures.acts) ran.sequential
