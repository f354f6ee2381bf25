use Rattle.pref_share.proofs.Common.{arith, ℕ, Bool, ◌<◌, length, get_or, subst, sym, sendable, IfOk, DidTask}
use Rattle.std.proofs.lemmas.Result.{IfOk-weaker}
use denote.Param.SendFields.{declared_send, variants_send, as_row_send}
use Rattle.pref_share.specs.declared.run.Job.{Job}
use Rattle.pref_share.proofs.SendLaws.{client_send}
use Rattle.std.proofs.option.Option.TheSendSync as options
use Rattle.pref_share.proofs.fault.ShareFault.TheSendSync as faults
use Rattle.pref_share.proofs.run.work_all.Goals as goal

pub map_vec-requires-send-J : goal.map_vec-requires-send-J
map_vec-requires-send-J g c κs within = search (sendable, declared_send, client_send) depth 14

pub map_vec-requires-send-X : goal.map_vec-requires-send-X
map_vec-requires-send-X g c κs within = search (sendable, declared_send, variants_send, as_row_send, client_send, options.the_send, faults.the_send) depth 14

pub returns-clause-each : goal.returns-clause-each
returns-clause-each g c =
    let o = g.J.BoardBrand.opening in
    let says : ℕ → ℕ → Bool → Type 0 = g.G.Gate.says c.args.gate.now in
    IfOk-weaker c.map_vec.result _ _ (λ all gives i job d lt.
    let within : i < length c.args.jobs.items = omega (arith, lt, c.args.jobs.ok.0) in
    let given = (gives i d within).1 in
    subst (λ (j : Job g.row.J.Denot g.row.T.Denot). IfOk (get_or all.items i d) (DidTask o says (g.T.Task.took j.task) j.client (g.T.Task.left j.task))) (sym (given.job_is job)) given.call.met) c.map_vec.ensures.each
