use Rattle.pref_core.proofs.Common.{Some, refl, sym, ap, ◌∙◌}
use Rattle.pref_core.proofs.MachineActs.{begins_call, steps_does}
use Rattle.pref_core.proofs.machine.Machine.begin_event.Goals as goal

pub returns-in-Err : goal.returns-in-Err
returns-in-Err c = steps_does _ _ c.args.event _ _ _ refl (c.in-Err.ensures.refused c.args.event.act (begins_call c.args.event.act c.requires ∙ ap Some (sym c.begin-call.ensures))) refl refl
