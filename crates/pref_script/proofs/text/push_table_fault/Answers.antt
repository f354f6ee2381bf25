use Rattle.pref_script.proofs.text.push_table_fault.Goals as goal

pub returns-in-BadName : goal.returns-in-BadName
returns-in-BadName c = rw c.in-BadName.is c.push_text_and_number.ensures

pub returns-in-SameName : goal.returns-in-SameName
returns-in-SameName c = rw c.in-SameName.is c.push_text_and_number-in-SameName.ensures

pub returns-in-Width : goal.returns-in-Width
returns-in-Width c = rw c.in-Width.is c.push_text_and_number-in-Width.ensures

pub returns-in-NotWhole : goal.returns-in-NotWhole
returns-in-NotWhole c = rw c.in-NotWhole.is c.push_text_and_place.ensures

pub returns-in-OutOfRange : goal.returns-in-OutOfRange
returns-in-OutOfRange c = rw c.in-OutOfRange.is c.push_text_and_place-in-OutOfRange.ensures
