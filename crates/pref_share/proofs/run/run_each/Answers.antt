use Rattle.pref_share.proofs.Common.{sendable, into_iter_items}
use Rattle.pref_share.proofs.SendLaws.{listed_send}
use Rattle.pref_share.proofs.ReportsLaws.{reports_of_lists}
use Rattle.pref_share.proofs.run.run_each.Goals as goal

pub work_tasks-requires-send-T : goal.work_tasks-requires-send-T
work_tasks-requires-send-T g c κs within = search (sendable, listed_send)

pub returns : goal.returns
returns g c =
    let done = c.in_ok-worked.ensures in
    rw (← c.in_ok-tasks.ensures.acts, c.in_ok-reports.ensures) (record { history = done.history; legal = done.legal; each = reports_of_lists g.J.BoardBrand.opening (g.G.Gate.says c.args.gate.now) done.history (λ listed. into_iter_items listed.acts) _ _ _ done.each })
