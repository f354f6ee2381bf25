use Rattle.pref_core.proofs.Common.{Some, sym, Deleted, ActDelete}
use Rattle.pref_core.proofs.machine.Machine.delete.Goals as goal

pub returns : goal.returns
returns c = c.change.ensures (ActDelete c.args.id) (Deleted c.args.id) (λ i. Some (sym c.delete.ensures i, Deleted c.args.id))
