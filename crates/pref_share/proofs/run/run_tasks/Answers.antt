use Rattle.pref_share.proofs.Common.{◌≡◌, ◌∙◌, List, ap, inl, inr, map, subst, ⊎_elim, Core, IsJointRun, OutOfMemory, Some, Standing, first_fault}
use Rattle.pref_share.proofs.ExitLaws.{exits}
use Rattle.pref_share.proofs.InterleavingsLaws.{joint_runs_are_sequential}
use Rattle.pref_share.proofs.ReportsLaws.{parts, reports_of_tasks}
use Rattle.pref_share.proofs.run.run_tasks.Goals as goal

pub returns-clause-ran : goal.returns-clause-ran
returns-clause-ran g c =
    let o = g.J.BoardBrand.opening in
    let all = c.in_ok-worked.ensures in
    let acts = map g.T.Task.left c.args.tasks.items in
    let (reports, taken, each, stopped) = reports_of_tasks o (g.G.Gate.says c.args.gate.now) all.history g.T.Task.left g.T.Task.took _ _ _ all.each in
    let joint : IsJointRun o c.args.clients.items acts (map (λ report. report.replies) reports) =
    record { history = all.history; legal = all.legal; each = parts o (g.G.Gate.says c.args.gate.now) all.history _ _ reports each (ap first_fault stopped ∙ c.in_ok-done.ensures.done) } in
    let run = subst (λ (l : List Standing). IsJointRun o l acts (map (λ report. report.replies) reports)) c.requires.clients joint in
    rw c.in_ok-done.ensures.all (record { replies = map (λ report. report.replies) reports; taken = taken; joint = run; sequential = joint_runs_are_sequential o _ _ run })

pub returns-in_err-done-clause-refused : goal.returns-in_err-done-clause-refused
returns-in_err-done-clause-refused g c =
    let all = c.in_ok-worked.ensures in
    let fault = c.in_err-done.field-0.0 in
    let (reports, taken, each, stopped) = reports_of_tasks g.J.BoardBrand.opening (g.G.Gate.says c.args.gate.now) all.history g.T.Task.left g.T.Task.took _ _ _ all.each in
    rw (exits c.from_residual-in_err-done.result c.from_residual-in_err-done.ensures.1)
    (⊎_elim (λ (first : first_fault (map (λ worked. worked.stopped) c.in_ok-worked.worked.items) ≡ Some fault). inr (reports, record { history = all.history; legal = all.legal; each = each }, ap first_fault stopped ∙ first))
    (λ (memory : fault ≡ Core OutOfMemory). inl memory) c.in_err-done.ensures.first)
