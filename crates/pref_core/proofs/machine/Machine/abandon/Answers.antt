use Rattle.pref_core.proofs.Common.{Ok, Some, sym, ap, subst, op_of, IsPlan, Does, Abandoned, ActAbandon, abandons}
use Rattle.pref_core.proofs.EndReplies.{abandon_does}
use Rattle.pref_core.proofs.machine.Machine.abandon.Goals as goal

pub perform-requires : goal.perform-requires
perform-requires c = abandons (subst (λ call. IsPlan c.args.self.now.contents c.args.client call (op_of c.in-Ok.op)) c.abandon-call.ensures c.in-Ok.ensures.planned)

pub returns-in-Ok : goal.returns-in-Ok
returns-in-Ok c =
    subst (Does c.args.self.now c.args.client ActAbandon (Ok Abandoned)) (sym c.perform.ensures)
    (abandon_does c.args.self.now c.args.client (op_of c.in-Ok.op) (subst (λ call. IsPlan c.args.self.now.contents c.args.client call (op_of c.in-Ok.op)) c.abandon-call.ensures c.in-Ok.ensures.planned))

pub returns-in-Err : goal.returns-in-Err
returns-in-Err c = c.in-Err.ensures.refused ActAbandon (ap Some (sym c.abandon-call.ensures))
