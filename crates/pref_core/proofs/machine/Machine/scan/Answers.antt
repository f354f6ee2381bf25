use Rattle.pref_core.proofs.Common.{◌≡◌, length, arith, sym, subst, common_steps, with_items_is, seat, ActScan, as_reply, ScansAt, NextIsNewAt, Left}
use Rattle.pref_core.proofs.ChangeReplies.{running_of}
use Rattle.pref_core.proofs.MachineActs.{scan_does, next_is_new_in_order, in_order_after}
use Rattle.pref_core.proofs.machine.Machine.scan.Goals as goal

pub scan_at-requires : goal.scan_at-requires
scan_at-requires c =
    subst (λ l. NextIsNewAt (seat c.args.client l) c.self.inside.store.slots) (sym c.deref_mut.ensures.value)
    (next_is_new_in_order (running_of c.self.inside.store c.self.inside.setup c.self.inside.queries.items) c.self.inside.index c.args.client c.self.invariant)

pub invariant_of-self : goal.invariant_of-self
invariant_of-self c =
    let long : length c.scan_at.new.queries ≡ c.self.inside.queries.len = omega arith in
    in_order_after _ _ c.self.inside.index c.self.inside.index c.args.client ActScan (as_reply Left c.scan_at.result) c.self.invariant
    (scan_does (running_of c.self.inside.store c.self.inside.setup c.self.inside.queries.items) c.args.client c.scan_at.result c.scan_at.new.queries _ (with_items_is c.self.inside.queries c.scan_at.new.queries long)
    (subst (λ l. ScansAt (seat c.args.client l) c.self.inside.store.slots c.args.client l c.scan_at.result c.scan_at.new.queries) c.deref_mut.ensures.value c.scan_at.ensures)) c.self.invariant.indexed

pub returns : goal.returns
returns c = grind (arith, common_steps, scan_does, with_items_is)
