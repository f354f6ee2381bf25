use Rattle.pref_core.proofs.Common.{◌≡◌, Err, sym, subst, rules, ◌∙◌, ap, OutOfMemory, IsPlan, IsInOrder, applied, Running, op_of, as_reply, Does}
use Rattle.pref_core.proofs.ChangeReplies.{change_does, change_unmade, is_its_call, own_plan, running_of}
use Rattle.pref_core.proofs.MachineActs.{in_order_changed}
use Rattle.pref_core.proofs.machine.Machine.change.Goals as goal

pub returns-in-Err : goal.returns-in-Err
returns-in-Err c act done is = c.in-Err.ensures.refused act (is_its_call c.args.self.now.contents.next_id act c.args.call.now done is)

pub reindex-requires-clause-plan : goal.reindex-requires-clause-plan
reindex-requires-clause-plan c = own_plan _ _ _ _ (op_of c.in-Ok.op) c.self.view_is c.in-Ok.ensures.planned

pub perform-requires : goal.perform-requires
perform-requires c = own_plan _ _ _ _ (op_of c.in-Ok.op) c.self.view_is c.in-Ok.ensures.planned

pub returns-in_err-reindex : goal.returns-in_err-reindex
returns-in_err-reindex c act done change =
    let is : c.from_residual.result ≡ Err OutOfMemory = search rules in
    subst (λ t. Does c.args.self.now c.args.client act (as_reply (λ _. done) t) (running_of c.self.inside.store c.self.inside.setup c.self.inside.queries.items)) (sym is)
    (subst (Does c.args.self.now c.args.client act (Err OutOfMemory)) (sym c.self.view_is) (change_unmade c.args.self.now c.args.client act c.args.call.now (op_of c.in-Ok.op) done change c.in-Ok.ensures.planned c.in_err-reindex.ensures.refused))

pub returns : goal.returns
returns c act done change =
    let new = running_of c.perform.new.self c.self.inside.setup c.self.inside.queries.items in
    let op = op_of c.in-Ok.op in
    let is : new ≡ running_of (applied c.args.self.now.contents op) c.args.self.now.limits c.args.self.now.scans =
    (λ i. running_of (c.perform.ensures.exact i) c.self.inside.setup c.self.inside.queries.items) ∙ ap (λ (r : Running). running_of (applied r.contents op) r.limits r.scans) c.self.view_is in
    subst (λ t. Does c.args.self.now c.args.client act t new) (sym (c.result_of.ensures done))
    (subst (Does c.args.self.now c.args.client act _) (sym is) (change_does c.args.self.now c.args.client act c.args.call.now op done c.requires change c.in-Ok.ensures.planned))

pub invariant_of-self-2 : goal.invariant_of-self-2
invariant_of-self-2 c =
    let old = running_of c.self.inside.store c.self.inside.setup c.self.inside.queries.items in
    subst (λ s. IsInOrder (running_of s c.self.inside.setup c.self.inside.queries.items) c.reindex.new.index) (sym c.perform.ensures.exact)
    (in_order_changed old c.self.inside.index c.reindex.new.index c.args.client c.args.call.now (op_of c.in-Ok.op) c.requires
    (subst (λ (r : Running). IsPlan r.contents c.args.client c.args.call.now (op_of c.in-Ok.op)) (sym c.self.view_is) c.in-Ok.ensures.planned) c.self.invariant c.in_ok-reindex.ensures.after)
