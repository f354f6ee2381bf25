-- No public contract cites this.
-- A client's part of a script: its acts, which come command by command, and the lines of the replies. (this project)
use Rattle.std.specs.Prelude.{ℕ, suc, ◌≡◌, ◌+◌, ◌<◌, ◌⊎◌, true, false, List, [], ◌∷◌, ◌++◌, length, map, drop, Some, Result, Ok, Err, string_bytes, vec_len}
use Rattle.std.specs.Borrow.{Bor}
use Rattle.std.specs.List.{list_all}
use Rattle.pref_table.specs.Number.{is_blank}
use Rattle.pref_core.specs.declared.event.Act.{Act}
use Rattle.pref_core.specs.declared.event.Event.{Event}
use Rattle.pref_core.specs.declared.event.Reply.{Reply}
use Rattle.pref_share.specs.Interleavings.{acts_of}
use Rattle.pref_script.specs.Commands.{accepted_events, commands_of, event_of, event_said}
use Rattle.pref_script.specs.Forms.{client_named, said_by_client, said_in}
use Rattle.pref_script.specs.Script.{without_line_end}
use Rattle.pref_script.specs.Text.{reply_lines, texts}
use Rattle.pref_script.specs.declared.command.Refusal.{Refusal}
use Rattle.pref_script.specs.declared.parts.Part.{Part}

-- the acts of a client in lines
abbrev pub acts_in : List (List ℕ) → ℕ → List (List ℕ) → List Act
acts_in names client raws = acts_of client (accepted_events (commands_of names 0 raws))

-- the line is not refused, where it names the client
abbrev pub IsAccepted : List (List ℕ) → ℕ → List ℕ → Type 0
IsAccepted names client line = client_named line ≡ Some client → (event : Event) × (event_of names line ≡ Ok event)

-- no line is refused that names the client
abbrev pub AllAccepted : List (List ℕ) → ℕ → List (List ℕ) → Type 0
AllAccepted names client [] = Unit {0}
AllAccepted names client (raw ∷ more) = IsAccepted names client (without_line_end raw) × AllAccepted names client more

-- the line names this client, and this is its command
pub record IsCommandOf (client : ℕ) (line command : List ℕ) : Type 0 where
  pub named : client_named line ≡ Some client
  pub said : said_in line ≡ said_by_client client command

-- the event of a client's command, or why the command is refused
abbrev pub event_by : List (List ℕ) → ℕ → List ℕ → Result Event Refusal
event_by names client command = event_said names (said_by_client client command)

-- the act of an event, where it is not refused
abbrev pub act_in : Result Event Refusal → List Act
act_in (Ok event) = event.act ∷ []
act_in (Err why) = []

-- the acts of a client's commands
abbrev pub acts_by : List (List ℕ) → ℕ → List (List ℕ) → List Act
acts_by names client [] = []
acts_by names client (command ∷ more) = act_in (event_by names client command) ++ acts_by names client more

-- none of a client's commands is refused
abbrev pub AreAccepted : List (List ℕ) → ℕ → List (List ℕ) → Type 0
AreAccepted names client [] = Unit {0}
AreAccepted names client (command ∷ more) = ((event : Event) × (event_by names client command ≡ Ok event)) × AreAccepted names client more

-- the commands of a part that were not read
abbrev pub commands_left : Part → List (List ℕ)
commands_left part = map (λ (command : Bor (List ℕ)). command.now) (drop part.read part.commands.items)

-- its acts that have not come
abbrev pub acts_left : Part → List Act
acts_left part = acts_by part.schema.now part.client (commands_left part)

-- no command that is left of the part is refused
abbrev pub AcceptsLeft : Part → Type 0
AcceptsLeft part = AreAccepted part.schema.now part.client (commands_left part)

-- The part as it is now, which was this at first, has the lines of these replies behind those that it had. Unless it says that a command
-- was refused, it has read none that was.
pub record HasReplied (first part : Part) (replies : List Reply) : Type 0 where
  pub client : part.client ≡ first.client
  pub schema : part.schema.now ≡ first.schema.now
  pub text : string_bytes part.text ≡ string_bytes first.text ++ texts (reply_lines (length first.schema.now) first.client) replies
  pub accepted : part.refused ≡ false → AcceptsLeft part → AcceptsLeft first

-- the part has read all its commands, and none of them was refused
pub record IsWhole (part : Part) : Type 0 where
  pub through : part.read ≡ vec_len part.commands
  pub accepted : part.refused ≡ false

-- A client's part before its first command is read: with the lines that are left to be given, it has the acts of the client in all
-- lines, and where it and these have none that is refused, all have none.
pub record IsPart (names raws left : List (List ℕ)) (client : ℕ) (part : Part) : Type 0 where
  pub schema : part.schema.now ≡ names
  pub number : part.client ≡ client
  pub acts : acts_left part ++ acts_in names client left ≡ acts_in names client raws
  pub accepted : AcceptsLeft part → AllAccepted names client left → AllAccepted names client raws
  pub unread : part.read ≡ 0
  pub returned : string_bytes part.text ≡ []

-- the parts of clients, of which the first has this number
abbrev pub PartsFrom : List (List ℕ) → List (List ℕ) → List (List ℕ) → ℕ → List Part → Type 0
PartsFrom names raws left client [] = Unit {0}
PartsFrom names raws left client (part ∷ more) = IsPart names raws left client part × PartsFrom names raws left (client + 1) more

-- the parts of the clients, from client 1 on
abbrev pub ArePartsUpTo : List (List ℕ) → List (List ℕ) → List (List ℕ) → List Part → Type 0
ArePartsUpTo names raws left parts = PartsFrom names raws left 1 parts

-- the same with all their commands
abbrev pub AreParts : List (List ℕ) → List (List ℕ) → List Part → Type 0
AreParts names raws parts = ArePartsUpTo names raws [] parts

-- a line names none of this many clients
abbrev pub NamesNone : ℕ → List ℕ → Type 0
NamesNone clients line = (index : ℕ) → index < clients → client_named line ≡ Some (suc index) → ⊥

-- a line is blank, or it names one of this many clients
abbrev pub IsGiven : ℕ → List ℕ → Type 0
IsGiven clients raw = (list_all is_blank (without_line_end raw) ≡ true) ⊎ ((index : ℕ) × (index < clients) × (client_named (without_line_end raw) ≡ Some (suc index)))

-- so is each of these
abbrev pub AllGiven : ℕ → List (List ℕ) → Type 0
AllGiven clients [] = Unit {0}
AllGiven clients (raw ∷ more) = IsGiven clients raw × AllGiven clients more
