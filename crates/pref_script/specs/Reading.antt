-- No public contract cites this.
-- What reading a line gives, and the faults of the crates below as those of a run. (this project)
use Rattle.std.specs.Prelude.{ℕ, ◌≡◌, ◌≤◌, ◌<◌, ◌^◌, ⊤, true, List, [], length, Option, Some, None, Result, Ok, Err, if◌then◌else◌}
use Rattle.std.specs.Str.{all_ascii_digits}
use Rattle.std.specs.Str.Parse.{digits_value}
use Rattle.pref_table.specs.declared.fault.TableFault.{TableFault}
use Rattle.pref_table.specs.declared.fault.TableFault.TheVariants as table
use Rattle.pref_core.specs.declared.fault.CoreFault.{CoreFault}
use Rattle.pref_core.specs.declared.fault.CoreFault.TheVariants as core
use Rattle.pref_share.specs.declared.fault.ShareFault.{ShareFault}
use Rattle.pref_share.specs.declared.fault.ShareFault.TheVariants as share
use Rattle.pref_script.specs.Pieces.{are_changes, pieces_of}
use Rattle.pref_script.specs.Words.{word_number, word_of}
use Rattle.pref_script.specs.declared.command.Refusal.{Refusal}
use Rattle.pref_script.specs.declared.command.Refusal.TheVariants.{NotCommand}
use Rattle.pref_script.specs.declared.command.Stop.{Stop}
use Rattle.pref_script.specs.declared.command.Stop.TheVariants.{Refused as StopRefused, OutOfMemory as StopMemory}
use Rattle.pref_script.specs.declared.fault.RunFault.{RunFault}
use Rattle.pref_script.specs.declared.fault.RunFault.TheVariants as fault

-- what was read is what is said, unless memory ran out
abbrev pub Reads : {X : Type 0} → Result X Stop → Result X Refusal → Type 0
Reads (Ok x) said = said ≡ Ok x
Reads (Err (StopRefused why)) said = said ≡ Err why
Reads (Err StopMemory) said = ⊤

-- the word that a text begins with is digits, so many and of this value
pub record IsDigitsWord (text : List ℕ) (value count : ℕ) : Type 0 where
  pub size : length (word_of text) ≡ count
  pub inside : count ≤ length text
  pub digits : all_ascii_digits (word_of text) ≡ true
  pub is : digits_value 10 (word_of text) ≡ value

-- a word that is no number of 64 bits
abbrev pub HasNoNumber : List ℕ → Type 0
HasNoNumber word = (most : ℕ) → most < 2 ^ 64 → word_number most word ≡ None

-- the pieces that are left of a commit's text
abbrev pub pieces_left : Option (List ℕ) → List (List ℕ)
pieces_left None = []
pieces_left (Some text) = pieces_of text

-- the first refusal of a commit whose piece is refused for its values, by the text that follows the piece: a piece of it that has
-- not the form of a change comes first
abbrev pub first_refusal : Stop → Option (List ℕ) → Stop
first_refusal why None = why
first_refusal why (Some rest) = if are_changes rest then why else StopRefused NotCommand

-- a table's fault as one of the run
abbrev pub table_fault : TableFault → RunFault
table_fault table.OutOfMemory = fault.Memory
table_fault why = fault.Table why

-- the engine's refusal of a script as a fault of the run
abbrev pub core_fault : CoreFault → RunFault
core_fault core.OutOfMemory = fault.Memory
core_fault why = fault.Opening why

-- what stopped the clients as a fault of the run
abbrev pub share_fault : ShareFault → RunFault
share_fault (share.Core why) = core_fault why
share_fault why = fault.Threads why
