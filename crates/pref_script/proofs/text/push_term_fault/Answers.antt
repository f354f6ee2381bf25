use Rattle.pref_script.proofs.text.push_term_fault.Goals as goal

pub returns-in-Unexpected : goal.returns-in-Unexpected
returns-in-Unexpected c = rw c.in-Unexpected.is c.push_text_and_number.ensures

pub returns-in-UnknownColumn : goal.returns-in-UnknownColumn
returns-in-UnknownColumn c = rw c.in-UnknownColumn.is c.push_text_and_number-in-UnknownColumn.ensures

pub returns-in-NumberRange : goal.returns-in-NumberRange
returns-in-NumberRange c = rw c.in-NumberRange.is c.push_text_and_number-in-NumberRange.ensures

pub returns-in-TooDeep : goal.returns-in-TooDeep
returns-in-TooDeep c = rw c.in-TooDeep.is c.push_text_and_number-in-TooDeep.ensures

pub returns-in-BadCount : goal.returns-in-BadCount
returns-in-BadCount c = rw c.in-BadCount.is c.push_text_and_number-in-BadCount.ensures

pub returns-in-EmptyRange : goal.returns-in-EmptyRange
returns-in-EmptyRange c = rw c.in-EmptyRange.is c.push_text_and_number-in-EmptyRange.ensures
