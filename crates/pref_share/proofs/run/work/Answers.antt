use Rattle.pref_share.proofs.Common.{ap, arith, false, length, length-append, true, refl, rules}
use Rattle.pref_share.proofs.RunsLaws.{goes_first, goes_held, goes_more, goes_no_further}
use Rattle.pref_share.proofs.run.work.Goals as goal

pub loop-task-init : goal.loop-task-init
loop-task-init g c =
    goes_first g.J.BoardBrand.opening (g.G.Gate.says c.args.gate.now) g.T.Task.left (g.T.Task.took c.args.job.task) c.args.job.client (g.T.Task.left c.args.job.task) c.args.job.task refl c.requires.fresh c.seen-seen.ensures.legal

pub returns-then-not-before : goal.returns-then-not-before
returns-then-not-before g c =
    let number = c.number-number.ensures.value in
    let returned : g.G.Gate.says c.args.gate.now c.number-number.result c.loop-task.turn false = search rules in
    let comes = rw c.in-Some.is at c.in_ok-act.ensures.next in
    rw number
    (goes_held g.J.BoardBrand.opening (g.G.Gate.says c.args.gate.now) g.T.Task.left (g.T.Task.took c.args.job.task) c.args.job.client (g.T.Task.left c.args.job.task) c.loop-task.client c.loop-task.task c.next.new.self c.loop-task.turn c.in-Some.act c.loop-task.invariant comes
    (c.in_ok-act.ensures.same c.args.job.task) (rw number at returned))

pub returns-in-Err : goal.returns-in-Err
returns-in-Err g c =
    let returned : g.G.Gate.says c.args.gate.now c.number-number.result c.loop-task.turn true = search rules in
    let comes = rw c.in-Some.is at c.in_ok-act.ensures.next in
    goes_no_further g.J.BoardBrand.opening (g.G.Gate.says c.args.gate.now) g.T.Task.left (g.T.Task.took c.args.job.task) c.args.job.client (g.T.Task.left c.args.job.task) c.loop-task.client c.act.new.self c.loop-task.task c.next.new.self c.loop-task.turn c.in-Some.act c.in-Err.fault
    c.loop-task.invariant comes (c.in_ok-act.ensures.same c.args.job.task) (rw c.number-number.ensures.value at returned) c.in-Err.ensures

pub loop-task-preserved : goal.loop-task-preserved
loop-task-preserved g c =
    let returned : g.G.Gate.says c.args.gate.now c.number-number.result c.loop-task.turn true = search rules in
    let comes = rw c.in-Some.is at c.in_ok-act.ensures.next in
    goes_more g.J.BoardBrand.opening (g.G.Gate.says c.args.gate.now) g.T.Task.left (g.T.Task.took c.args.job.task) c.args.job.client (g.T.Task.left c.args.job.task) c.loop-task.client c.act.new.self c.loop-task.task c.next.new.self c.take.new.self c.loop-task.turn c.in-Some.act
    c.in-Ok.reply c.loop-task.invariant comes (c.in_ok-act.ensures.same c.args.job.task) (rw c.number-number.ensures.value at returned) c.in-Ok.ensures c.in_ok-take-in-Ok.ensures.same (c.in_ok-take-in-Ok.ensures.taken c.args.job.task)

pub overflow_add-turn : goal.overflow_add-turn
overflow_add-turn g c =
    let now = c.loop-task.invariant in
    omega (arith, now.turns, ap length now.in_order, length-append now.done (g.T.Task.left c.loop-task.task), c.requires.few)

pub loop-task-smaller : goal.loop-task-smaller
loop-task-smaller g c =
    let comes = rw c.in-Some.is at c.in_ok-act.ensures.next in
    omega (arith, ap length comes, ap length c.in_ok-take-in-Ok.ensures.same)
