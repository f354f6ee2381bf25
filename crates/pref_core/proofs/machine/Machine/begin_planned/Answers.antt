use Rattle.pref_core.proofs.Common.{◌≡◌, ℕ, Ok, Some, sym, subst, ap, ◌∙◌, op_of, AreAllowed, Running, Scan, Queries, begins_query, called, begin, blocks, Begun, ActBegin, Does}
use Rattle.pref_core.proofs.EndReplies.{begin_does}
use Rattle.pref_core.proofs.machine.Machine.begin_planned.Goals.{After-begin-query}
use Rattle.pref_core.proofs.machine.Machine.begin_planned.Goals as goal

is : (c : After-begin-query) → begin c.args.ask c.args.self.now.contents.stamp c.args.self.now.limits ≡ c.begin-query.result
is c = sym (c.begin-query.ensures ∙ ap (λ n. begin c.args.ask n c.self.inside.setup) c.stamp.ensures ∙ ap (λ (r : Running). begin c.args.ask r.contents.stamp r.limits) c.self.view_is)

allowed : (c : After-begin-query) → AreAllowed c.args.self.now.limits
allowed c = subst (λ (r : Running). AreAllowed r.limits) c.self.view_is c.blocks-count.ensures.allowed

pub perform-requires : goal.perform-requires
perform-requires c =
    let at = (goal.at.perform-requires c).After-begin-query in
    subst (λ (q : Scan). Queries c.args.self.now c.args.client (op_of c.args.op.now) (Some q)) (is at) (begins_query c.args.ask (allowed at) c.requires)

pub returns : goal.returns
returns c =
    let at = (goal.at.returns c).After-begin-query in
    subst (λ (n : ℕ). Does c.args.self.now c.args.client (ActBegin c.args.ask) (Ok (Begun n)) c.perform.new.self) (sym (c.blocks-count.ensures.value ∙ ap (λ (r : Running). blocks r.limits) c.self.view_is))
    (subst (Does c.args.self.now c.args.client (ActBegin c.args.ask) (Ok (Begun (blocks c.args.self.now.limits)))) (sym (c.perform.ensures ∙ ap (λ (q : Scan). called c.args.self.now c.args.client (op_of c.args.op.now) (Some q)) (sym (is at))))
    (begin_does c.args.self.now c.args.client c.args.ask (op_of c.args.op.now) (allowed at) c.requires))
