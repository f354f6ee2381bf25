-- The commands of a script: the event of each line, or why the line is refused. (this project)
use Rattle.std.specs.Prelude.{ℕ, ◌+◌, List, [], ◌∷◌, ◌++◌, length, Option, Some, None, Result, Ok, Err, if◌then◌else◌}
use Rattle.std.specs.List.{list_all}
use Rattle.pref_table.specs.Number.{is_blank}
use Rattle.pref_table.specs.Numbered.{◌>>=◌, all_from}
use Rattle.pref_table.specs.Rows.{line_row}
use Rattle.pref_table.specs.declared.fault.TableFault.{TableFault}
use Rattle.pref_term.specs.Asked.{asked}
use Rattle.pref_term.specs.declared.fault.TermFault.{TermFault}
use Rattle.pref_core.specs.Changes.{commit_of}
use Rattle.pref_core.specs.declared.changes.Change.{Change}
use Rattle.pref_core.specs.declared.changes.Change.TheVariants.{Add, Set, Remove}
use Rattle.pref_core.specs.declared.event.Act.{Act}
use Rattle.pref_core.specs.declared.event.Act.TheVariants.{Insert, Update, Delete, Commit, Begin, Scan, Finish, Abandon, Get, Room}
use Rattle.pref_core.specs.declared.event.Event.{Event}
use Rattle.pref_core.specs.declared.fault.CoreFault.{CoreFault}
use Rattle.pref_script.specs.Forms.{Said, changes, commits, begins, scans, finishes, abandons, gets, rooms, said_in}
use Rattle.pref_script.specs.Pieces.{ChangeSaid, inserts, updates, deletes, are_changes, piece_said, pieces_of}
use Rattle.pref_script.specs.Script.{without_line_end}
use Rattle.pref_script.specs.declared.command.Refusal.{Refusal}
use Rattle.pref_script.specs.declared.command.Refusal.TheVariants.{NotCommand, Values, Question, Changes}

-- what values, a question or changes say, or a refusal for their fault
abbrev pub of_values : {A : Type 0} → Result A TableFault → Result A Refusal
of_values (Ok row) = Ok row
of_values (Err why) = Err (Values why)

abbrev pub of_question : {A : Type 0} → Result A TermFault → Result A Refusal
of_question (Ok ask) = Ok ask
of_question (Err why) = Err (Question why)

abbrev pub of_changes : {A : Type 0} → Result A CoreFault → Result A Refusal
of_changes (Ok commit) = Ok commit
of_changes (Err why) = Err (Changes why)

-- the change that is said, over the columns of these names
unfoldable pub change_of : List (List ℕ) → ChangeSaid → Result Change Refusal
change_of names (inserts values) = do
  row ← of_values (line_row (length names) values)
  Ok (Add row)
change_of names (updates id values) = do
  row ← of_values (line_row (length names) values)
  Ok (Set id row)
change_of names (deletes id) = Ok (Remove id)

-- the change of a piece of a commit
abbrev pub piece_change : List (List ℕ) → Option ChangeSaid → Result Change Refusal
piece_change names None = Err NotCommand
piece_change names (Some what) = change_of names what

-- the commit of these pieces: the values of all of them are read from the left before their number and their ids are tested
abbrev pub commit_from : List (List ℕ) → List (List ℕ) → Result (List Change) Refusal
commit_from names pieces = do
  all ← all_from (λ place piece. piece_change names (piece_said piece)) 1 pieces
  of_changes (commit_of all)

-- the commit of a text whose pieces are between semicolons: the form of each is tested before any values are read
unfoldable pub commit_said : List (List ℕ) → List ℕ → Result (List Change) Refusal
commit_said names text = if are_changes text then commit_from names (pieces_of text) else Err NotCommand

-- the act that makes one change
abbrev pub act_by : Change → Act
act_by (Add row) = Insert row
act_by (Set id row) = Update id row
act_by (Remove id) = Delete id

-- the act that is said, over the columns of these names
unfoldable pub act_of : List (List ℕ) → Said → Result Act Refusal
act_of names (changes what) = do
  change ← change_of names what
  Ok (act_by change)
act_of names (commits text) = do
  commit ← commit_said names text
  Ok (Commit commit)
act_of names (begins question) = do
  ask ← of_question (asked names question)
  Ok (Begin ask)
act_of names scans = Ok Scan
act_of names finishes = Ok Finish
act_of names abandons = Ok Abandon
act_of names (gets id) = Ok (Get id)
act_of names rooms = Ok Room

-- the event of what a line says: its form is tested first, then its values, its pieces or its question
abbrev pub event_said : List (List ℕ) → Option (ℕ × Said) → Result Event Refusal
event_said names None = Err NotCommand
event_said names (Some (client, what)) = do
  act ← act_of names what
  Ok (record { client = client; act = act })

-- the event of a command line, or why the line is refused
abbrev pub event_of : List (List ℕ) → List ℕ → Result Event Refusal
event_of names line = event_said names (said_in line)

-- a command: a refused line by its number, or an event
pub data Command : Type 0 where
  refused : ℕ → Refusal → Command
  runs : Event → Command

abbrev pub command_of : ℕ → Result Event Refusal → Command
command_of number (Ok event) = runs event
command_of number (Err why) = refused number why

-- the command of a line; a line of blanks has none
abbrev pub commands_in : List (List ℕ) → ℕ → List ℕ → List Command
commands_in names number line = if list_all is_blank line then [] else command_of number (event_of names line) ∷ []

-- the commands of lines, of which the first has this number
unfoldable pub commands_of : List (List ℕ) → ℕ → List (List ℕ) → List Command
commands_of names number [] = []
commands_of names number (raw ∷ more) = commands_in names number (without_line_end raw) ++ commands_of names (number + 1) more

-- the events of commands
unfoldable pub accepted_events : List Command → List Event
accepted_events [] = []
accepted_events (refused number why ∷ more) = accepted_events more
accepted_events (runs event ∷ more) = event ∷ accepted_events more
