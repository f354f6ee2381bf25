-- The forms of a command line. (this project)
use Rattle.std.specs.Prelude.{ℕ, List, Option, Some, None, if◌then◌else◌, codes, option_map}
use Rattle.std.specs.Str.{bytes_eq}
use Rattle.pref_table.specs.Number.{after_blanks}
use Rattle.pref_script.specs.Pieces.{ChangeSaid, change_said, change_said_by, change_verb_of}
use Rattle.pref_script.specs.Words.{◌>>=◌, after_word, alone, lone_id, word_number, word_of}
use Rattle.pref_script.specs.declared.forms.Verb.{Verb}
use Rattle.pref_script.specs.declared.forms.Verb.TheVariants as verb
use Rattle.pref_script.specs.declared.forms.Form.{Form}
use Rattle.pref_script.specs.declared.forms.Form.TheVariants as form

-- what a word asks for
unfoldable pub verb_of : List ℕ → Option Verb
verb_of word = elim (change_verb_of word) [
  | Some change ↦ Some (verb.Change change)
  | None ↦
      if bytes_eq word (codes "commit") then Some verb.Commit
      else if bytes_eq word (codes "begin") then Some verb.Begin
      else if bytes_eq word (codes "scan") then Some verb.Scan
      else if bytes_eq word (codes "finish") then Some verb.Finish
      else if bytes_eq word (codes "abandon") then Some verb.Abandon
      else if bytes_eq word (codes "get") then Some verb.Get
      else if bytes_eq word (codes "room") then Some verb.Room
      else None
]

-- what a command line says: its values, its pieces and its question are still texts
pub data Said : Type 0 where
  changes : ChangeSaid → Said
  commits : List ℕ → Said
  begins : List ℕ → Said
  scans : Said
  finishes : Said
  abandons : Said
  gets : ℕ → Said
  rooms : Said

-- the same, as the code holds it
abbrev pub said : Form → Said
said (form.Change change) = changes (change_said change)
said (form.Commit pieces) = commits pieces.now
said (form.Begin question) = begins question.now
said form.Scan = scans
said form.Finish = finishes
said form.Abandon = abandons
said (form.Get id) = gets id
said form.Room = rooms

-- a verb with what follows it
unfoldable pub said_by : Verb → List ℕ → Option Said
said_by (verb.Change change) rest = do
  what ← change_said_by change rest
  Some (changes what)
said_by verb.Commit rest = Some (commits rest)
said_by verb.Begin rest = Some (begins rest)
said_by verb.Scan rest = alone scans rest
said_by verb.Finish rest = alone finishes rest
said_by verb.Abandon rest = alone abandons rest
said_by verb.Get rest = do
  id ← lone_id rest
  Some (gets id)
said_by verb.Room rest = alone rooms rest

-- what a command says, which is what follows the client's number: a verb and what follows it
abbrev pub said_of : List ℕ → Option Said
said_of command = do
  verb ← verb_of (word_of command)
  said_by verb (after_word command)

-- the same, with the client that gives the command
abbrev pub said_by_client : ℕ → List ℕ → Option (ℕ × Said)
said_by_client client command = option_map (λ what. (client, what)) (said_of command)

-- what follows the word `as`: the client's number and a command
abbrev pub said_after_as : List ℕ → Option (ℕ × Said)
said_after_as rest = do
  client ← word_number 255 (word_of rest)
  said_by_client client (after_word rest)

-- the client of a command line and what it says, where it has the form of one
unfoldable pub said_in : List ℕ → Option (ℕ × Said)
said_in line =
    let text = after_blanks line in
    if bytes_eq (word_of text) (codes "as") then said_after_as (after_word text) else None

-- the client that a line names: by the word `as` and a number below 256, whatever follows
unfoldable pub client_named : List ℕ → Option ℕ
client_named line =
    let text = after_blanks line in
    if bytes_eq (word_of text) (codes "as") then word_number 255 (word_of (after_word text)) else None
