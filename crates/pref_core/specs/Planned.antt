-- A planned call whose call is lent, or in a box, as the op that it is. (this project)
use Rattle.std.specs.Prelude.{Result, Ok, Err}
use Rattle.pref_core.specs.declared.call.Op.{Op}
use Rattle.pref_core.specs.declared.call.planned.Planned.{Planned}
use Rattle.pref_core.specs.declared.call.boxed.BoxedOp.{BoxedOp}
use Rattle.pref_core.specs.declared.fault.CoreFault.{CoreFault}

abbrev pub op_of : Planned → Op
op_of planned = record { client = planned.client; number = planned.number; call = planned.call.now; slots = planned.slots; outcome = planned.outcome }

abbrev pub boxed_op : BoxedOp → Op
boxed_op op = record { client = op.client; number = op.number; call = op.call; slots = op.slots; outcome = op.outcome }

-- what planning returns, as ops
abbrev pub op_or_fault : Result Planned CoreFault → Result Op CoreFault
op_or_fault (Ok planned) = Ok (op_of planned)
op_or_fault (Err fault) = Err fault
