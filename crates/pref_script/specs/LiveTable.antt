-- What a live table prints for its lines. (this project)
use Rattle.std.specs.Prelude.{ℕ, ℤ, ◌≡◌, ◌<◌, ◌+◌, List, length, Ok}
use Rattle.pref_table.specs.Tables.{table_of}
use Rattle.pref_core.specs.Limits.{Limits}
use Rattle.pref_core.specs.Step.{opened}
use Rattle.pref_core.specs.Systems.{Running, StandsForSystem}
use Rattle.pref_script.specs.Commands.{commands_in}
use Rattle.pref_script.specs.Output.{ScriptFault, script_of}
use Rattle.pref_script.specs.Playing.{Plays}
use Rattle.pref_script.specs.Script.{Sections, sections_of, raw_lines}
use Rattle.pref_script.specs.declared.fault.RunFault.{RunFault}
use Rattle.pref_script.specs.declared.live_table.LiveTable.{LiveTable}

-- the names of a live table's columns, what runs, and the number of the next line
abbrev pub names_of : LiveTable → List (List ℕ)
names_of live = live.schema

abbrev pub running_of : LiveTable → Running
running_of live = live.machine

abbrev pub next_number : LiveTable → ℕ
next_number live = live.number

-- the table of a text, before its first line, which has this number
pub record IsOpened (limits : Limits) (table : List ℕ) (number : ℕ) (live : LiveTable) : Type 0 where
  pub rows : List (List ℤ)
  pub gives : table_of table ≡ Ok (names_of live, rows)
  pub room : limits.capacity < length rows → ⊥
  pub bounds : (running_of live).limits ≡ limits
  pub stands : StandsForSystem (running_of live) (opened limits rows)
  pub starts : next_number live ≡ number

-- why a text is no table that can be opened: the fault of each script that has it for its table
abbrev pub OpeningFault : Limits → List ℕ → RunFault → Type 0
OpeningFault limits table fault = (bytes : List ℕ) (sections : Sections) → sections_of (raw_lines bytes) ≡ Ok sections → sections.table ≡ table → ScriptFault fault (script_of limits bytes)

-- the table was given a line, which has its number: the text has grown by what is printed for the line, and the next line has the next number
pub record PrintsLine (before : LiveTable) (line old new : List ℕ) (after : LiveTable) : Type 0 where
  pub names : names_of after ≡ names_of before
  pub number : next_number after ≡ next_number before + 1
  pub plays : Plays (length (names_of before)) (running_of before) (commands_in (names_of before) (next_number before) line) old new (running_of after)
