use Rattle.pref_core.proofs.Common.{◌≡◌, length, arith, sym, subst, ap, ◌∙◌, with_items_is, with_seat, op_of, IsInOrder, Queries, called}
use Rattle.pref_core.proofs.ChangeReplies.{running_of}
use Rattle.pref_core.proofs.MachineActs.{in_order_called, performed, queried_plan}
use Rattle.pref_core.proofs.machine.Machine.perform.Goals as goal

pub perform-requires : goal.perform-requires
perform-requires c = queried_plan _ _ c.args.client (op_of c.args.op.now) c.args.query c.self.view_is c.requires

pub returns : goal.returns
returns c =
    let old = running_of c.self.inside.store c.self.inside.setup c.self.inside.queries.items in
    let long : length c.set.new.queries ≡ c.self.inside.queries.len = omega arith in
    let placed = with_items_is c.self.inside.queries c.set.new.queries long ∙ c.set.ensures ∙ ap (with_seat c.args.client c.args.query) c.deref_mut.ensures.value in
    performed old c.perform.new.self _ c.args.client (op_of c.args.op.now) c.args.query c.perform.ensures.exact placed ∙ ap (λ r. called r c.args.client (op_of c.args.op.now) c.args.query) c.self.view_is

pub invariant_of-self : goal.invariant_of-self
invariant_of-self c =
    let old = running_of c.self.inside.store c.self.inside.setup c.self.inside.queries.items in
    let long : length c.set.new.queries ≡ c.self.inside.queries.len = omega arith in
    let placed = with_items_is c.self.inside.queries c.set.new.queries long ∙ c.set.ensures ∙ ap (with_seat c.args.client c.args.query) c.deref_mut.ensures.value in
    subst (λ r. IsInOrder r c.self.inside.index) (sym (performed old c.perform.new.self _ c.args.client (op_of c.args.op.now) c.args.query c.perform.ensures.exact placed))
    (in_order_called old c.self.inside.index c.args.client (op_of c.args.op.now) c.args.query c.self.invariant (subst (λ r. Queries r c.args.client (op_of c.args.op.now) c.args.query) (sym c.self.view_is) c.requires))
