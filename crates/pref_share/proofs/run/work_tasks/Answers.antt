use Rattle.pref_share.proofs.Common.{length-map, ◌≡◌, ◌++◌, ◌<◌, ◌^◌, ◌∙◌, List, Result, Ok, ap, arith, drop, [], length, map, subst, sym, take, All, Worked, StandsWithin}
use Rattle.std.proofs.Math.Seq.{take-append_seam}
use Rattle.std.specs.declared.alloc.AllocError.{AllocError}
use Rattle.pref_share.specs.declared.run.Job.{Job}
use Rattle.pref_share.proofs.ReportsLaws.{worked_each}
use Rattle.pref_share.proofs.RunsLaws.{all_mapped, tasks_of_jobs}
use Rattle.pref_share.proofs.run.work_tasks.Given.{Over}
use Rattle.pref_share.proofs.run.work_tasks.Goals.{In_ok-jobs}
use Rattle.pref_share.proofs.run.work_tasks.Goals as goal

-- what holds of all tasks holds of the jobs'
of_jobs : (g : Over) (c : In_ok-jobs g) (P : g.row.T.Denot → Type 0) → All P c.args.tasks.items → All (λ job. P job.task) c.in_ok-jobs.jobs.items
of_jobs g c P all = all_mapped (λ (job : Job g.row.J.Denot g.row.T.Denot). job.task) P c.in_ok-jobs.jobs.items c.args.tasks.items
    (ap (map (λ job. job.task)) c.in_ok-jobs.ensures ∙ tasks_of_jobs g.row.J.Denot c.args.clients.items c.args.tasks.items (omega (arith, c.args.tasks.ok.0, c.args.clients.ok.0, c.requires.lists))) all

pub work_all-requires-clause-fresh : goal.work_all-requires-clause-fresh
work_all-requires-clause-fresh g c κs within = of_jobs g (goal.at.work_all-requires-clause-fresh g c).In_ok-jobs (λ task. g.T.Task.took task task []) c.requires.fresh

pub work_all-requires-clause-few : goal.work_all-requires-clause-few
work_all-requires-clause-few g c κs within = of_jobs g (goal.at.work_all-requires-clause-few g c).In_ok-jobs (λ task. length (g.T.Task.left task) < 2 ^ 63) c.requires.few

pub returns : goal.returns
returns g c =
    let o = g.J.BoardBrand.opening in
    let all : List (Worked g.row.J.Denot g.row.T.Denot) = c.in_ok-worked.worked.items in
    let history = c.check_all-whole.result in
    let same : c.check_all-whole.new.all ≡ all = c.check_all-whole.ensures.same ∙ c.deref_mut.ensures.value in
    let size : length all ≡ length c.in_ok-jobs.jobs.items = omega (arith, length-map {B = Result (Worked g.row.J.Denot g.row.T.Denot) AllocError} all Ok, ap length c.in_ok-worked.ensures, c.in_ok-work_all.ensures.len, c.in_ok-work_all.field-0.ok.0, c.in_ok-jobs.jobs.ok.0) in
    let long : length c.check_all-whole.new.all ≡ c.in_ok-worked.worked.len = ap length same ∙ sym c.in_ok-worked.worked.ok.0 in
    let written : take c.in_ok-worked.worked.len (c.check_all-whole.new.all ++ drop (length c.check_all-whole.new.all) all) ≡ c.check_all-whole.new.all =
    ap (λ n. take n (c.check_all-whole.new.all ++ drop (length c.check_all-whole.new.all) all)) (sym long) ∙ take-append_seam c.check_all-whole.new.all (drop (length c.check_all-whole.new.all) all) in
    let within = subst (All (λ (worked : Worked g.row.J.Denot g.row.T.Denot). StandsWithin o history worked.client)) c.deref_mut.ensures.value c.check_all-whole.ensures.within in
    rw (written ∙ same) (record {
      history = history;
      legal = c.check_all-whole.ensures.legal;
      each = worked_each o (g.G.Gate.says c.args.gate.now) history g.T.Task.left g.T.Task.took {E = AllocError} c.args.clients.items c.args.tasks.items all
          (omega (arith, c.args.tasks.ok.0, c.args.clients.ok.0, c.requires.lists)) (size ∙ ap length c.in_ok-jobs.ensures)
          (λ i job d lt. rw (c.in_ok-worked.ensures, ← c.in_ok-jobs.ensures) (c.in_ok-work_all.ensures.each i job d (omega (arith, lt, ap length c.in_ok-jobs.ensures, c.in_ok-jobs.jobs.ok.0)))) within;
    })
