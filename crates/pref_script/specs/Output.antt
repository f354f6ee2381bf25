-- The output of a script. (this project)
use Rattle.std.specs.Prelude.{ℕ, ℤ, ◌≡◌, ⊤, List, [], ◌∷◌, length, Result, Ok, Err, IsOk, nat_lt, if◌then◌else◌, codes, String, string_bytes}
use Rattle.std.specs.Global.{Global}
use Rattle.pref_table.specs.Numbered.{◌>>=◌}
use Rattle.pref_table.specs.Tables.{Table, table_of}
use Rattle.pref_table.specs.declared.fault.TableFault.{TableFault}
use Rattle.pref_core.specs.Limits.{Limits}
use Rattle.pref_core.specs.Step.{replies}
use Rattle.pref_core.specs.declared.fault.CoreFault.TheVariants.{Full}
use Rattle.pref_core.specs.declared.event.Reply.{Reply}
use Rattle.pref_script.specs.Commands.{Command, refused, runs, commands_of, accepted_events}
use Rattle.pref_script.specs.Script.{Sections, sections_of, raw_lines}
use Rattle.pref_script.specs.Text.{◌<>◌, core_fault_text, refused_line, reply_lines, table_fault_text}
use Rattle.pref_script.specs.declared.fault.RunFault.{RunFault}
use Rattle.pref_script.specs.declared.fault.RunFault.TheVariants as fault

-- the line of a fault of the script itself, and nothing for others
abbrev pub fault_text : RunFault → List ℕ
fault_text fault.NoTable = codes "script refused: no table\n"
fault_text fault.NoEnd = codes "script refused: no end\n"
fault_text (fault.Table why) = codes "table refused " <> table_fault_text why <> codes "\n"
fault_text (fault.Opening why) = codes "opening refused " <> core_fault_text why <> codes "\n"
fault_text fault.Read = []
fault_text fault.Write = []
fault_text fault.TooLarge = []
fault_text fault.Memory = []
fault_text (fault.Threads why) = []

-- a table, or the script's fault for the table's
abbrev pub in_script : Result Table TableFault → Result Table RunFault
in_script (Ok table) = Ok table
in_script (Err why) = Err (fault.Table why)

-- a table whose rows there is room for
abbrev pub with_room : Limits → Table → Result Table RunFault
with_room limits (names, rows) = if nat_lt limits.capacity (length rows) then Err (fault.Opening (Full (length rows))) else Ok (names, rows)

-- a script: the names of its columns, its opening rows and its commands
pub record Script : Type 0 where
  pub names : List (List ℕ)
  pub rows : List (List ℤ)
  pub commands : List Command

abbrev pub script_with : Sections → Table → Script
script_with sections (names, rows) = record { names = names; rows = rows; commands = commands_of names sections.first sections.commands }

-- the script of these bytes, or its first fault
unfoldable pub script_of : Limits → List ℕ → Result Script RunFault
script_of limits bytes = do
  sections ← sections_of (raw_lines bytes)
  table ← in_script (table_of sections.table)
  opening ← with_room limits table
  Ok (script_with sections opening)

-- the lines of commands: each event takes the next reply, and refused lines come between
unfoldable pub command_lines : ℕ → List Command → List Reply → List ℕ
command_lines width [] replies = []
command_lines width (refused number why ∷ more) replies = refused_line number why <> command_lines width more replies
command_lines width (runs event ∷ more) [] = command_lines width more []
command_lines width (runs event ∷ more) (reply ∷ rest) = reply_lines width event.client reply <> command_lines width more rest

abbrev pub output_of : Limits → Result Script RunFault → List ℕ
output_of limits (Ok script) = command_lines (length script.names) script.commands (replies limits script.rows (accepted_events script.commands))
output_of limits (Err why) = fault_text why

-- the whole output of a script
abbrev pub output : Limits → List ℕ → List ℕ
output limits bytes = output_of limits (script_of limits bytes)

-- a fault that comes after the input was read and before the output is written
abbrev pub ScriptFault : RunFault → Result Script RunFault → Type 0
ScriptFault fault.Memory said = ⊤
ScriptFault fault.NoTable said = said ≡ Err fault.NoTable
ScriptFault fault.NoEnd said = said ≡ Err fault.NoEnd
ScriptFault (fault.Table why) said = said ≡ Err (fault.Table why)
ScriptFault (fault.Opening why) said = said ≡ Err (fault.Opening why)
ScriptFault fault.Read said = ⊥
ScriptFault fault.Write said = ⊥
ScriptFault fault.TooLarge said = ⊥
ScriptFault (fault.Threads why) said = ⊥

-- what an input gives: its output, which is the replies to a script without a fault, or the fault
abbrev pub PrintsOutput : Limits → List ℕ → Result (List ℕ) RunFault → Type 0
PrintsOutput limits bytes (Ok text) = IsOk (script_of limits bytes) × (text ≡ output limits bytes)
PrintsOutput limits bytes (Err why) = ScriptFault why (script_of limits bytes)

-- what is written of a text or a fault: the text, or the fault's line
abbrev pub text_of : Result (List ℕ) RunFault → List ℕ
text_of (Ok text) = text
text_of (Err why) = fault_text why

-- a text or a fault, by its bytes
abbrev pub in_bytes : Result (String Global) RunFault → Result (List ℕ) RunFault
in_bytes (Ok text) = Ok (string_bytes text)
in_bytes (Err why) = Err why
