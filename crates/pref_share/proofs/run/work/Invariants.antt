use Rattle.pref_share.proofs.Common.{length}
use Rattle.pref_share.proofs.RunsLaws.{Goes}
use Rattle.pref_share.proofs.run.work.Given as goal

abbrev pub invariant-loop-task : goal.invariant-loop-task
invariant-loop-task g l = Goes g.J.BoardBrand.opening (g.G.Gate.says l.fn.gate) g.T.Task.left (g.T.Task.took l.fn.job.task) l.fn.job.client (g.T.Task.left l.fn.job.task) l.client l.task l.turn

abbrev pub decreases-loop-task : goal.decreases-loop-task
decreases-loop-task g l = length (g.T.Task.left l.task)
