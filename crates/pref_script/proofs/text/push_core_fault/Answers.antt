use Rattle.pref_script.proofs.text.push_core_fault.Goals as goal

pub returns-in-NotDone : goal.returns-in-NotDone
returns-in-NotDone c = rw c.in-NotDone.is c.push_text_and_number.ensures

pub returns-in-NoSuchRow : goal.returns-in-NoSuchRow
returns-in-NoSuchRow c = rw c.in-NoSuchRow.is c.push_text_and_number-in-NoSuchRow.ensures

pub returns-in-Full : goal.returns-in-Full
returns-in-Full c = rw c.in-Full.is c.push_text_and_number-in-Full.ensures

pub returns-in-Twice : goal.returns-in-Twice
returns-in-Twice c = rw c.in-Twice.is c.push_text_and_number-in-Twice.ensures
