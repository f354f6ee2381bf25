use Rattle.pref_script.proofs.Common.{append_assoc, IfOk-equal}
use Rattle.pref_script.proofs.text.push_refusal.Goals as goal

pub returns-in_ok-write-in-Values : goal.returns-in_ok-write-in-Values
returns-in_ok-write-in-Values c = IfOk-equal c.push_table_fault.result _ _ _ c.push_table_fault.ensures (rw (c.in-Values.is, c.in_ok-write-in-Values.ensures.bytes) (simp append_assoc))

pub returns-in_ok-write-in-Changes : goal.returns-in_ok-write-in-Changes
returns-in_ok-write-in-Changes c = IfOk-equal c.push_core_fault.result _ _ _ c.push_core_fault.ensures (rw (c.in-Changes.is, c.in_ok-write-in-Changes.ensures.bytes) (simp append_assoc))
