use Rattle.pref_core.proofs.Common.{Some, sym, Updated, ActUpdate}
use Rattle.pref_core.proofs.machine.Machine.update.Goals as goal

pub returns : goal.returns
returns c = c.change.ensures (ActUpdate c.args.id c.args.row.now) (Updated c.args.id) (λ i. Some (sym c.update.ensures i, Updated c.args.id))
