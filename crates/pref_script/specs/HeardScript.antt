-- No public contract cites this.
-- A script that is heard line by line. (this project)
use Rattle.std.specs.Prelude.{ℕ, ℤ, ◌≡◌, ◌≤◌, ◌<◌, ◌+◌, ◌⊎◌, true, List, [], ◌++◌, length, take, Option, IfSome, Result, Ok, Err}
use Rattle.std.specs.Io.KnownBytes.{Consumes, IsAtEnd}
use Rattle.pref_table.specs.Tables.{table_of}
use Rattle.pref_core.specs.Limits.{Limits}
use Rattle.pref_core.specs.Step.{System, opened}
use Rattle.pref_core.specs.Systems.{StandsForSystem}
use Rattle.pref_script.specs.Commands.{Command, commands_of}
use Rattle.pref_script.specs.Live.{EndsWithLine, IsTooLong, HeardNone, ShowsFault}
use Rattle.pref_script.specs.LiveTable.{names_of, next_number, running_of}
use Rattle.pref_script.specs.Playing.{printed_from}
use Rattle.pref_script.specs.ReadAhead.{IsLittle, ReadBehind, ReadFault, is_at_end, unread}
use Rattle.pref_script.specs.Run.{Source}
use Rattle.pref_script.specs.Script.{Sections, sections_of, raw_lines}
use Rattle.pref_script.specs.declared.fault.RunFault.{RunFault}
use Rattle.pref_script.specs.declared.fault.RunFault.TheVariants as fault
use Rattle.pref_script.specs.declared.live_table.LiveTable.{LiveTable}
use Rattle.pref_script.specs.declared.read_ahead.ReadAhead.{ReadAhead}

-- this many bytes of what was read are the lines up to the first line `end`, of which this is the table text; the next line has this number
pub record IsBlock (end : ℕ) (table : List ℕ) (first : ℕ) (ahead : ReadAhead) : Type 0 where
  pub inside : end ≤ length (unread ahead)
  pub few : end ≤ 16777216
  pub cut : sections_of (raw_lines (take end (unread ahead))) ≡ Ok (record { table = table; commands = []; first = first })
  pub lines : EndsWithLine (take end (unread ahead)) ⊎ (is_at_end ahead ≡ true) × (end ≡ length (unread ahead))

-- no command line was heard, where nothing was there before
abbrev pub HearsNone : Source → ReadAhead → Type 0
HearsNone source old = unread old ≡ [] → HeardNone source

-- what was read has no table block for this reason, whatever follows it, or it is all that there was
abbrev pub LacksBlock : ReadAhead → RunFault → Type 0
LacksBlock ahead why = ((more : List ℕ) → sections_of (raw_lines (unread ahead ++ more)) ≡ Err why) ⊎ (is_at_end ahead ≡ true) × (sections_of (raw_lines (unread ahead)) ≡ Err why)

-- the table block was read, which has this many bytes, or why there is none
abbrev pub ReadsBlock : Source → ReadAhead → ReadAhead → Result ℕ RunFault → Type 0
ReadsBlock source old new (Ok end) = ReadBehind source.had source.left old new × (IsLittle 0 (unread old) → IsLittle end (unread new)) × (table : List ℕ) × (first : ℕ) × IsBlock end table first new
ReadsBlock source old new (Err fault.NoTable) = ReadBehind source.had source.left old new × HearsNone source old × LacksBlock new fault.NoTable
ReadsBlock source old new (Err fault.NoEnd) = ReadBehind source.had source.left old new × HearsNone source old × LacksBlock new fault.NoEnd
ReadsBlock source old new (Err fault.TooLarge) = ReadBehind source.had source.left old new × ((more : List ℕ) → IsTooLong (unread new ++ more)) × HearsNone source old
ReadsBlock source old new (Err why) = ReadFault source.failed why × HearsNone source old

-- the script of the lines that were read so far, with the table after them
pub record HeardScript (limits : Limits) (heard : List ℕ) (live : LiveTable) (text : List ℕ) : Type 0 where
  pub sections : Sections
  pub rows : List (List ℤ)
  pub cut : sections_of (raw_lines heard) ≡ Ok sections
  pub table : table_of sections.table ≡ Ok (names_of live, rows)
  pub room : limits.capacity < length rows → ⊥
  pub number : next_number live ≡ sections.first + length sections.commands
  pub bounds : (running_of live).limits ≡ limits
  pub next : System
  pub stands : StandsForSystem (running_of live) next
  pub goes_on : (more : List Command) → text ++ printed_from limits (length (names_of live)) next more
      ≡ printed_from limits (length (names_of live)) (opened limits rows) (commands_of (names_of live) sections.first sections.commands ++ more)

-- the lines that were read so far, what of the input is ahead, and what was printed
pub record Hears (limits : Limits) (had left : Option (List ℕ)) (ahead : ReadAhead) (live : LiveTable) (text : List ℕ) : Type 0 where
  pub heard : List ℕ
  pub consumed : Consumes had left (heard ++ unread ahead)
  pub lines : EndsWithLine heard ⊎ (is_at_end ahead ≡ true) × (unread ahead ≡ [])
  pub at_end : is_at_end ahead ≡ true → IsAtEnd left
  pub little : IsLittle 0 (unread ahead)
  pub script : HeardScript limits heard live text

-- the table was opened, or why it was not
abbrev pub OpensLive : Limits → Source → ReadAhead → Result LiveTable RunFault → Type 0
OpensLive limits source new (Ok live) = Hears limits source.had source.left new live [] × (next_number live ≤ 16777219)
OpensLive limits source new (Err fault.Read) = (source.failed ≡ true) × HeardNone source
OpensLive limits source new (Err fault.TooLarge) = IfSome source.had IsTooLong × HeardNone source
OpensLive limits source new (Err fault.Memory) = HeardNone source
OpensLive limits source new (Err fault.Write) = ⊥
OpensLive limits source new (Err (fault.Threads why)) = ⊥
OpensLive limits source new (Err why) = ShowsFault limits source why
