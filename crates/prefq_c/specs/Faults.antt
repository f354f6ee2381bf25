-- Why a call is refused, in numbers and as a text. (this project)
use Rattle.std.specs.Prelude.{ℕ, List, ◌++◌, nat_lt, drop, codes, if◌then◌else◌}
use Rattle.std.specs.Fmt.{decimal}
use Rattle.pref_table.specs.declared.fault.TableFault.{TableFault}
use Rattle.pref_table.specs.declared.fault.TableFault.TheVariants as table
use Rattle.pref_term.specs.declared.fault.TermFault.{TermFault}
use Rattle.pref_term.specs.declared.fault.TermFault.TheVariants as term
use Rattle.pref_core.specs.declared.fault.CoreFault.{CoreFault}
use Rattle.pref_core.specs.declared.fault.CoreFault.TheVariants as core
use Rattle.pref_script.specs.Text.{core_fault_text, table_fault_text, term_fault_text}
use Rattle.prefq_c.specs.Ended.{numbered}
use Rattle.prefq_c.specs.declared.ended.Why.{Why}
use Rattle.prefq_c.specs.declared.fault.Fault.{Fault}
use Rattle.prefq_c.specs.declared.fault.Fault.TheVariants.{Act, Values, Question, Changes, Opening, Outside, NoChange, NoValues, Memory}

-- the faults of the crates below as those of a call
abbrev pub act_fault : CoreFault → Fault
act_fault core.OutOfMemory = Memory
act_fault why = Act why

abbrev pub values_fault : TableFault → Fault
values_fault table.OutOfMemory = Memory
values_fault why = Values why

abbrev pub question_fault : TermFault → Fault
question_fault term.OutOfMemory = Memory
question_fault why = Question why

-- the numbers of a refusal of the engine, which may be about changes or opening rows
abbrev pub core_refusal : ℕ → CoreFault → Why
core_refusal kind core.NoSuchClient = numbered kind 1
core_refusal kind core.Spent = numbered kind 2
core_refusal kind core.QueryOpen = numbered kind 3
core_refusal kind core.NoQuery = numbered kind 4
core_refusal kind core.AllScanned = numbered kind 5
core_refusal kind (core.NotDone left) = record (numbered kind 6) { amount = left }
core_refusal kind (core.NoSuchRow id) = record (numbered kind 7) { amount = id }
core_refusal kind (core.Full needed) = record (numbered kind 8) { amount = needed }
core_refusal kind core.OutOfMemory = numbered kind 9
core_refusal kind (core.Twice place) = record (numbered kind 12) { place = place }
core_refusal kind core.ChangeCount = numbered kind 13

-- those of names and values
abbrev pub table_refusal : TableFault → Why
table_refusal table.NoColumns = numbered 2 1
table_refusal table.TooManyColumns = numbered 2 2
table_refusal (table.BadName col) = record (numbered 2 3) { place = col }
table_refusal (table.SameName col) = record (numbered 2 4) { place = col }
table_refusal (table.Width row) = record (numbered 2 5) { row = row }
table_refusal (table.NotWhole row col) = record (numbered 2 6) { place = col; row = row }
table_refusal (table.OutOfRange row col) = record (numbered 2 7) { place = col; row = row }
table_refusal table.TooManyRows = numbered 2 8
table_refusal table.OutOfMemory = numbered 2 9

-- those of a question
abbrev pub term_refusal : TermFault → Why
term_refusal (term.Unexpected at) = record (numbered 3 1) { place = at }
term_refusal (term.UnknownColumn at) = record (numbered 3 2) { place = at }
term_refusal (term.NumberRange at) = record (numbered 3 3) { place = at }
term_refusal (term.TooDeep at) = record (numbered 3 4) { place = at }
term_refusal term.TooLong = numbered 3 5
term_refusal (term.BadCount at) = record (numbered 3 6) { place = at }
term_refusal term.NoMinOrMax = numbered 3 7
term_refusal term.OutOfMemory = numbered 3 8
term_refusal (term.EmptyRange at) = record (numbered 3 9) { place = at }

-- the numbers of a refusal, whose kinds are those of library/include/prefq.h
abbrev pub refusal_numbers : Fault → Why
refusal_numbers (Act why) = core_refusal 1 why
refusal_numbers (Values why) = table_refusal why
refusal_numbers (Question why) = term_refusal why
refusal_numbers (Changes why) = core_refusal 4 why
refusal_numbers (Opening why) = core_refusal 5 why
refusal_numbers Outside = numbered 6 0
refusal_numbers (NoChange place) = record (numbered 6 0) { place = place }
refusal_numbers NoValues = numbered 6 0
refusal_numbers Memory = numbered 7 0

-- the number of a refusal and what the program says behind it
abbrev pub refusal_text : Fault → List ℕ
refusal_text (Act why) = core_fault_text why
refusal_text (Values why) = table_fault_text why
refusal_text (Question why) = term_fault_text why
refusal_text (Changes why) = core_fault_text why
refusal_text (Opening why) = core_fault_text why
refusal_text Outside = codes "0: a number of the setup is outside its range"
refusal_text (NoChange place) = codes "0: there is no such change place " ++ decimal place
refusal_text NoValues = codes "0: the values are NULL"
refusal_text Memory = codes "0: out of memory"

-- what stands behind a number, a colon and a blank: the number has two digits from 10 on
abbrev pub behind_number : ℕ → List ℕ → List ℕ
behind_number number text = drop (if nat_lt number 10 then 3 else 4) text

-- what the program says behind the number of a refusal
abbrev pub words : Fault → List ℕ
words why = behind_number (refusal_numbers why).number (refusal_text why)
