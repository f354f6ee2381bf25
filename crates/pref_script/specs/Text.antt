-- The lines that are printed, each with its line feed. (this project)
use Rattle.std.specs.Prelude.{ℕ, ℤ, pos, List, [], ◌∷◌, ◌++◌, length, map, codes, slice_index_or}
use Rattle.std.specs.Fmt.{decimal, signed_decimal}
use Rattle.std.specs.List.{join_with_byte, range_with_len}
use Rattle.pref_table.specs.declared.fault.TableFault.{TableFault}
use Rattle.pref_table.specs.declared.fault.TableFault.TheVariants as table
use Rattle.pref_term.specs.declared.fault.TermFault.{TermFault}
use Rattle.pref_term.specs.declared.fault.TermFault.TheVariants as term
use Rattle.pref_core.specs.declared.fault.CoreFault.{CoreFault}
use Rattle.pref_core.specs.declared.fault.CoreFault.TheVariants as core
use Rattle.pref_core.specs.declared.event.Reply.{Reply}
use Rattle.pref_core.specs.declared.event.Reply.TheVariants as reply
use Rattle.pref_sky.specs.declared.entry.Ranked.{Ranked}
use Rattle.pref_script.specs.declared.command.Refusal.{Refusal}
use Rattle.pref_script.specs.declared.command.Refusal.TheVariants as refusal

-- two texts, one after the other; it groups to the right, as the parts of a format do
infixr 10 ◌<>◌
abbrev pub ◌<>◌ : List ℕ → List ℕ → List ℕ
a <> b = a ++ b

-- the number and the text of a fault of a table
abbrev pub table_fault_text : TableFault → List ℕ
table_fault_text table.NoColumns = codes "1: no columns"
table_fault_text table.TooManyColumns = codes "2: too many columns"
table_fault_text (table.BadName col) = codes "3: bad name col " <> decimal col
table_fault_text (table.SameName col) = codes "4: same name col " <> decimal col
table_fault_text (table.Width row) = codes "5: width row " <> decimal row
table_fault_text (table.NotWhole row col) = codes "6: not whole row " <> decimal row <> codes " col " <> decimal col
table_fault_text (table.OutOfRange row col) = codes "7: out of range row " <> decimal row <> codes " col " <> decimal col
table_fault_text table.TooManyRows = codes "8: too many rows"
table_fault_text table.OutOfMemory = codes "9: out of memory"

-- the number and the text of a fault of a question
abbrev pub term_fault_text : TermFault → List ℕ
term_fault_text (term.Unexpected at) = codes "1: unexpected at " <> decimal at
term_fault_text (term.UnknownColumn at) = codes "2: unknown column at " <> decimal at
term_fault_text (term.NumberRange at) = codes "3: number range at " <> decimal at
term_fault_text (term.TooDeep at) = codes "4: too deep at " <> decimal at
term_fault_text term.TooLong = codes "5: too long"
term_fault_text (term.BadCount at) = codes "6: bad count at " <> decimal at
term_fault_text term.NoMinOrMax = codes "7: no min or max"
term_fault_text term.OutOfMemory = codes "8: out of memory"
term_fault_text (term.EmptyRange at) = codes "9: empty range at " <> decimal at

-- the number and the text of a refusal of the engine
abbrev pub core_fault_text : CoreFault → List ℕ
core_fault_text core.NoSuchClient = codes "1: no such client"
core_fault_text core.Spent = codes "2: spent"
core_fault_text core.QueryOpen = codes "3: query open"
core_fault_text core.NoQuery = codes "4: no query"
core_fault_text core.AllScanned = codes "5: all scanned"
core_fault_text (core.NotDone left) = codes "6: not done left " <> decimal left
core_fault_text (core.NoSuchRow id) = codes "7: no such row " <> decimal id
core_fault_text (core.Full needed) = codes "8: full needed " <> decimal needed
core_fault_text core.OutOfMemory = codes "9: out of memory"
core_fault_text (core.Twice place) = codes "12: twice place " <> decimal place
core_fault_text core.ChangeCount = codes "13: change count"

-- the cells of a row below the width, with commas between them
abbrev pub row_text : ℕ → List ℤ → List ℕ
row_text width cells = join_with_byte 44 (map (λ col. signed_decimal (slice_index_or cells col (pos 0))) (range_with_len 0 width))

-- the line of a row in an answer
abbrev pub level_line : ℕ → Ranked → List ℕ
level_line width ranked = codes "level " <> decimal ranked.level <> codes " id " <> decimal ranked.id <> codes ": " <> row_text width ranked.row <> codes "\n"

-- the texts of some things, one after the other
unfoldable pub texts : {A : Type 0} → (A → List ℕ) → List A → List ℕ
texts text [] = []
texts text (x ∷ more) = text x <> texts text more

-- the lines of the rows in an answer
abbrev pub level_lines : ℕ → List Ranked → List ℕ
level_lines width rows = texts (level_line width) rows

-- the line or the lines of a reply to a client; rows are printed over the width of the table
abbrev pub reply_lines : ℕ → ℕ → Reply → List ℕ
reply_lines width client (reply.Inserted id) = decimal client <> codes " inserted " <> decimal id <> codes "\n"
reply_lines width client (reply.Updated id) = decimal client <> codes " updated " <> decimal id <> codes "\n"
reply_lines width client (reply.Deleted id) = decimal client <> codes " deleted " <> decimal id <> codes "\n"
reply_lines width client (reply.Committed done) = decimal client <> codes " committed " <> decimal done.changes <> codes " first " <> decimal done.first <> codes "\n"
reply_lines width client (reply.Begun blocks) = decimal client <> codes " begun " <> decimal blocks <> codes "\n"
reply_lines width client (reply.Left blocks) = decimal client <> codes " left " <> decimal blocks <> codes "\n"
reply_lines width client (reply.Answer rows) = decimal client <> codes " answer " <> decimal (length rows) <> codes "\n" <> level_lines width rows
reply_lines width client reply.Abandoned = decimal client <> codes " abandoned\n"
reply_lines width client (reply.Found id row) = decimal client <> codes " row " <> decimal id <> codes ": " <> row_text width row <> codes "\n"
reply_lines width client (reply.Room room) = decimal client <> codes " room " <> decimal room <> codes "\n"
reply_lines width client (reply.Refused why) = decimal client <> codes " refused " <> core_fault_text why <> codes "\n"

-- what is printed for a refused line after its number
abbrev pub refusal_text : Refusal → List ℕ
refusal_text refusal.NotCommand = codes " refused: command"
refusal_text (refusal.Values why) = codes " refused table " <> table_fault_text why
refusal_text (refusal.Question why) = codes " refused term " <> term_fault_text why
refusal_text (refusal.Changes why) = codes " refused commit " <> core_fault_text why

-- the line of a refused line, by its number
abbrev pub refused_line : ℕ → Refusal → List ℕ
refused_line number why = codes "line " <> decimal number <> refusal_text why <> codes "\n"
