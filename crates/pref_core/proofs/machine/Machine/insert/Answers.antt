use Rattle.pref_core.proofs.Common.{Some, sym, ap, ◌∙◌, Inserted, ActInsert, Running}
use Rattle.pref_core.proofs.MachineActs.{valued}
use Rattle.pref_core.proofs.machine.Machine.insert.Goals as goal

pub returns : goal.returns
returns c =
    let next = sym (c.next_id-id.ensures ∙ ap (λ (r : Running). r.contents.next_id) c.self.view_is) in
    valued c.args.self.now c.args.client (ActInsert c.args.row.now) Inserted c.next_id-id.result c.change.result _ c.change.new.self c.and.ensures
    (c.change.ensures (ActInsert c.args.row.now) (Inserted c.next_id-id.result) (λ i. Some (sym c.insert.ensures i, Inserted (next i))))
