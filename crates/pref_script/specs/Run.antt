-- What a run of a script reads and writes. (this project)
use Rattle.std.specs.Prelude.{ℕ, ◌≡◌, ◌≤◌, Bool, true, List, length, take, Option, Result, Ok, Err, IsOk}
use Rattle.std.specs.Io.KnownBytes.{Appends, Consumes, IsAtEnd, Keeps}
use Rattle.pref_script.specs.Input.{HadTooMany}
use Rattle.pref_script.specs.Output.{fault_text, text_of}
use Rattle.pref_script.specs.Watched.{has_failed, inside}
use Rattle.pref_script.specs.declared.fault.RunFault.{RunFault}
use Rattle.pref_script.specs.declared.fault.RunFault.TheVariants as fault
use Rattle.pref_script.specs.declared.watched.Watched.{Watched}

-- a run's reader: what it had and has left, and whether it has failed
pub record Source : Type 0 where
  pub had : Option (List ℕ)
  pub left : Option (List ℕ)
  pub failed : Bool

-- a run's writer: what it held and holds, and whether it has failed
pub record Sink : Type 0 where
  pub held : Option (List ℕ)
  pub holds : Option (List ℕ)
  pub failed : Bool

-- a watched reader before and after, by the bytes that it has left
abbrev pub source_of : {R : Type 0} → (R → Option (List ℕ)) → Watched R → Watched R → Source
source_of remaining old new = record { had = remaining (inside old); left = remaining (inside new); failed = has_failed new }

-- a watched writer before and after, by the bytes that it holds
abbrev pub sink_of : {W : Type 0} → (W → Option (List ℕ)) → Watched W → Watched W → Sink
sink_of contents old new = record { held = contents (inside old); holds = contents (inside new); failed = has_failed new }

abbrev pub NothingWritten : Sink → Type 0
NothingWritten sink = Keeps sink.held sink.holds

abbrev pub WroteAll : Sink → List ℕ → Type 0
WroteAll sink text = Appends sink.held sink.holds text

abbrev pub WroteBeginning : Sink → List ℕ → Type 0
WroteBeginning sink text = (count : ℕ) × Appends sink.held sink.holds (take count text)

-- what was written of a text, or of a fault, by how the run ended
abbrev pub Wrote : Sink → Result (List ℕ) RunFault → Result (Unit {0}) RunFault → Type 0
Wrote sink returned (Ok done) = IsOk returned × WroteAll sink (text_of returned)
Wrote sink returned (Err fault.Write) = (sink.failed ≡ true) × WroteBeginning sink (text_of returned)
Wrote sink returned (Err fault.Memory) = NothingWritten sink
Wrote sink returned (Err why) = (returned ≡ Err why) × WroteAll sink (text_of returned)

-- all bytes of the reader were read, no more than a script may have, and P holds of them
abbrev pub ReadAll : Source → (List ℕ → Type 0) → Type 0
ReadAll source P = (bytes : List ℕ) × Consumes source.had source.left bytes × IsAtEnd source.left × (length bytes ≤ 16777216) × P bytes

-- what a run read and wrote, by how it ended, where Prints says which text or which fault an input may give
abbrev pub Ran : (List ℕ → Result (List ℕ) RunFault → Type 0) → Source → Sink → Result (Unit {0}) RunFault → Type 0
Ran Prints source sink (Ok done) = ReadAll source (λ bytes. (text : List ℕ) × Prints bytes (Ok text) × WroteAll sink text)
Ran Prints source sink (Err fault.Read) = (source.failed ≡ true) × NothingWritten sink
Ran Prints source sink (Err fault.TooLarge) = HadTooMany source.had × NothingWritten sink
Ran Prints source sink (Err fault.Memory) = NothingWritten sink
Ran Prints source sink (Err fault.Write) = (sink.failed ≡ true) × ReadAll source (λ bytes. (returned : Result (List ℕ) RunFault) × Prints bytes returned × WroteBeginning sink (text_of returned))
Ran Prints source sink (Err why) = ReadAll source (λ bytes. Prints bytes (Err why) × WroteAll sink (fault_text why))
