use Rattle.pref_core.proofs.Common.{◌≡◌, Some, Ok, Err, sym, subst, Call, Op, Contents, IsPlan, refusal_at}
use Rattle.pref_core.proofs.LegalLaws.{plans_in}
use Rattle.pref_core.proofs.store.Store.plan.Goals as goal

pub returns-in-Ok-clause-exact : goal.returns-in-Ok-clause-exact
returns-in-Ok-clause-exact c = subst (λ (t : Contents × Call × Op). IsPlan t.0 c.args.client t.1 t.2) (λ i. (c.self.view_is i, c.lend.ensures i, sym c.op.ensures i)) c.in-Ok.ensures

pub returns-in-Ok-clause-state : goal.returns-in-Ok-clause-state
returns-in-Ok-clause-state c state h = plans_in c.args.self.now state c.args.client c.args.call (Ok c.op.result) h (returns-in-Ok-clause-exact c)

pub returns-in-Err-clause-state : goal.returns-in-Err-clause-state
returns-in-Err-clause-state c state h =
    plans_in c.args.self.now state c.args.client c.args.call (Err c.in-Err.fault) h
    (subst (λ (t : Contents × Call). refusal_at t.0 c.args.client t.1 ≡ Some c.in-Err.fault) (λ i. (c.self.view_is i, c.lend.ensures i)) c.in-Err.ensures)
