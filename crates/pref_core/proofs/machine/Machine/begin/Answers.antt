use Rattle.pref_core.proofs.Common.{Some, sym, ap, ActBegin}
use Rattle.pref_core.proofs.machine.Machine.begin.Goals as goal

pub returns-in-Err : goal.returns-in-Err
returns-in-Err c = c.in-Err.ensures.refused (ActBegin c.args.ask) (ap Some (sym c.begin-call.ensures))
