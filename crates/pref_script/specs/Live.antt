-- What a run reads and writes that replies to each line of a script as it comes. (this project)
use Rattle.std.specs.Prelude.{ℕ, ◌≡◌, ◌≤◌, ◌<◌, ◌^◌, ◌⊎◌, true, Any, List, [], ◌∷◌, ◌++◌, length, take, drop, IfSome, Result, Ok, Err, IsOk}
use Rattle.std.specs.Io.KnownBytes.{Appends, Consumes, IsAtEnd}
use Rattle.std.specs.List.{concat}
use Rattle.pref_core.specs.Limits.{Limits}
use Rattle.pref_script.specs.LiveTable.{PrintsLine}
use Rattle.pref_script.specs.Output.{fault_text, output, script_of}
use Rattle.pref_script.specs.ReadAhead.{IsLineAt, IsLittle, LineFault, ReadBehind, ReadSome, is_at_end, most_ahead, unread}
use Rattle.pref_script.specs.Run.{NothingWritten, Sink, Source, WroteAll, WroteBeginning}
use Rattle.pref_script.specs.Script.{block_lines, raw_lines, without_line_end}
use Rattle.pref_script.specs.declared.fault.RunFault.{RunFault}
use Rattle.pref_script.specs.declared.fault.RunFault.TheVariants as fault
use Rattle.pref_script.specs.declared.live.Turn.{Turn}
use Rattle.pref_script.specs.declared.live.Turn.TheVariants as turn
use Rattle.pref_script.specs.declared.live_table.LiveTable.{LiveTable}
use Rattle.pref_script.specs.declared.read_ahead.ReadAhead.{ReadAhead}

-- one line was read and given to the live table, which printed this text
pub record PrintsNext (source : Source) (old new : ReadAhead) (before after : LiveTable) (text : List ℕ) : Type 0 where
  pub mid : ReadAhead
  pub end : ℕ
  pub read : ReadBehind source.had source.left old mid
  pub little : IsLittle 0 (unread old) → IsLittle 0 (unread mid)
  pub some : 0 < end
  pub inside : end ≤ length (unread mid)
  pub line : IsLineAt 0 end mid
  pub prints : PrintsLine before (without_line_end (take end (unread mid))) [] text after
  pub taken : unread new ≡ drop end (unread mid)
  pub ended : is_at_end new ≡ is_at_end mid

-- no line was left
pub record NoneLeft (source : Source) (old new : ReadAhead) : Type 0 where
  pub read : ReadBehind source.had source.left old new
  pub ended : is_at_end new ≡ true
  pub none : unread new ≡ []

-- what a turn reads and writes, by how it ends
abbrev pub Turns : Source → Sink → ReadAhead → ReadAhead → LiveTable → LiveTable → Result Turn RunFault → Type 0
Turns source sink old new before after (Ok turn.Replied) = (text : List ℕ) × PrintsNext source old new before after text × WroteAll sink text
Turns source sink old new before after (Ok turn.End) = NoneLeft source old new × NothingWritten sink
Turns source sink old new before after (Err fault.Write) = (sink.failed ≡ true) × (text : List ℕ) × PrintsNext source old new before after text × WroteBeginning sink text
Turns source sink old new before after (Err fault.Read) = (source.failed ≡ true) × ReadSome source.had source.left 0 old × NothingWritten sink
Turns source sink old new before after (Err fault.TooLarge) = LineFault source 0 old new fault.TooLarge × ReadSome source.had source.left 0 old × NothingWritten sink
Turns source sink old new before after (Err fault.Memory) = ReadSome source.had source.left 0 old × NothingWritten sink
Turns source sink old new before after (Err other) = ⊥

-- a text ends with a line, so that what follows is lines of its own
abbrev pub EndsWithLine : List ℕ → Type 0
EndsWithLine text = (more : List ℕ) → raw_lines (text ++ more) ≡ raw_lines text ++ raw_lines more

-- these first lines of an input are a script without a fault, and little was read behind them
pub record IsHeard (limits : Limits) (source : Source) (heard : List ℕ) : Type 0 where
  pub unheard : List ℕ
  pub consumed : Consumes source.had source.left (heard ++ unheard)
  pub lines : EndsWithLine heard ⊎ (unheard ≡ []) × IsAtEnd source.left
  pub script : IsOk (script_of limits heard)
  pub little : IsLittle 0 unheard

-- no command line was heard: what was read are lines of the table block, and little behind them
pub record HeardNone (source : Source) : Type 0 where
  pub block : List ℕ
  pub unheard : List ℕ
  pub consumed : Consumes source.had source.left (block ++ unheard)
  pub lines : block_lines (raw_lines block) ≡ raw_lines block
  pub little : IsLittle 0 unheard
  pub most : length (block ++ unheard) ≤ most_ahead

-- what a run has written that stops early: the output of the lines that were heard, and nothing where none was
abbrev pub StopsEarly : Limits → Source → Sink → Type 0
StopsEarly limits source sink = HeardNone source × NothingWritten sink ⊎ (heard : List ℕ) × IsHeard limits source heard × WroteAll sink (output limits heard)

-- the last line that was heard was being replied to: all output of the lines before was written, and a beginning of this line's
pub record StopsInLine (limits : Limits) (source : Source) (sink : Sink) : Type 0 where
  pub heard : List ℕ
  pub line : List ℕ
  pub is_line : raw_lines (heard ++ line) ≡ raw_lines heard ++ line ∷ []
  pub before : IsOk (script_of limits heard)
  pub after : IsHeard limits source (heard ++ line)
  pub count : ℕ
  pub wrote : Appends sink.held sink.holds (take count (output limits (heard ++ line)))
  pub all_before : length (output limits heard) ≤ count

-- no command line was heard, and what was read is a script with this fault, whatever follows it; or it is all that there was
abbrev pub ShowsFault : Limits → Source → RunFault → Type 0
ShowsFault limits source why = HeardNone source × (bytes : List ℕ) × Consumes source.had source.left bytes
    × (((more : List ℕ) → script_of limits (bytes ++ more) ≡ Err why) ⊎ IsAtEnd source.left × (script_of limits bytes ≡ Err why))

-- a script that is too large to be heard: its table block or one of its lines has more than 16,777,216 bytes, or it has 2^63 lines
abbrev pub IsTooLong : List ℕ → Type 0
IsTooLong bytes = let lines = raw_lines bytes in
    16777216 < length (concat (block_lines lines)) ⊎ Any (λ line. 16777216 < length line) lines ⊎ 2 ^ 63 ≤ length lines

-- what a run read and wrote, by how it ended
abbrev pub RanLive : Limits → Source → Sink → Result (Unit {0}) RunFault → Type 0
RanLive limits source sink (Ok done) = (bytes : List ℕ) × Consumes source.had source.left bytes × IsAtEnd source.left × IsOk (script_of limits bytes) × WroteAll sink (output limits bytes)
RanLive limits source sink (Err fault.Read) = (source.failed ≡ true) × StopsEarly limits source sink
RanLive limits source sink (Err fault.TooLarge) = IfSome source.had IsTooLong × StopsEarly limits source sink
RanLive limits source sink (Err fault.Memory) = StopsEarly limits source sink
RanLive limits source sink (Err fault.Write) = (sink.failed ≡ true) × (StopsInLine limits source sink ⊎ HeardNone source × NothingWritten sink ⊎ (why : RunFault) × ShowsFault limits source why × WroteBeginning sink (fault_text why))
RanLive limits source sink (Err (fault.Threads why)) = ⊥
RanLive limits source sink (Err why) = ShowsFault limits source why × WroteAll sink (fault_text why)
