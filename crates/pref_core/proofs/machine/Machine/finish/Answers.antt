use Rattle.pref_core.proofs.Common.{◌≡◌, Ok, Err, Some, sym, ap, subst, rules, op_of, as_reply, IsPlan, Does, Answer, ActFinish, finishes}
use Rattle.pref_core.proofs.EndReplies.{finish_does, finish_not_done}
use Rattle.pref_core.proofs.machine.Machine.finish.Goals as goal

pub returns-in-Err : goal.returns-in-Err
returns-in-Err c = c.in-Err.ensures.refused ActFinish (ap Some (sym c.finish-call.ensures))

pub returns-in_err-ranked : goal.returns-in_err-ranked
returns-in_err-ranked c =
    let fault = c.in_err-ranked.field-0.0 in
    let is : c.from_residual.result ≡ Err fault = search rules in
    subst (λ t. Does c.args.self.now c.args.client ActFinish (as_reply Answer t) c.args.self.now) (sym is)
    (finish_not_done c.args.self.now c.args.client (op_of c.in-Ok.op) fault (subst (λ call. IsPlan c.args.self.now.contents c.args.client call (op_of c.in-Ok.op)) c.finish-call.ensures c.in-Ok.ensures.planned) c.in_err-ranked.ensures)

pub perform-requires : goal.perform-requires
perform-requires c = finishes (subst (λ call. IsPlan c.args.self.now.contents c.args.client call (op_of c.in-Ok.op)) c.finish-call.ensures c.in-Ok.ensures.planned)

pub returns : goal.returns
returns c =
    subst (λ l. Does c.args.self.now c.args.client ActFinish (Ok (Answer l)) c.perform.new.self) (sym c.of.ensures)
    (subst (Does c.args.self.now c.args.client ActFinish (Ok (Answer c.in_ok-ranked.ranked.items))) (sym c.perform.ensures)
    (finish_does c.args.self.now c.args.client (op_of c.in-Ok.op) c.in_ok-ranked.ranked (subst (λ call. IsPlan c.args.self.now.contents c.args.client call (op_of c.in-Ok.op)) c.finish-call.ensures c.in-Ok.ensures.planned) c.in_ok-ranked.ensures))
