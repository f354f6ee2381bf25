-- The output of a script whose clients run on threads. (this project)
use Rattle.std.specs.Prelude.{ℕ, ◌≡◌, ◌+◌, ◌&&◌, ◌⊎◌, List, [], ◌∷◌, length, map, Bool, true, nat_le, nat_lt, if◌then◌else◌, Result, Ok, Err}
use Rattle.std.specs.List.{range_with_len}
use Rattle.pref_core.specs.Limits.{Limits}
use Rattle.pref_core.specs.declared.event.Act.{Act}
use Rattle.pref_core.specs.declared.event.Reply.{Reply}
use Rattle.pref_core.specs.declared.event.Reply.TheVariants.{Refused}
use Rattle.pref_core.specs.declared.fault.CoreFault.TheVariants.{NoSuchClient}
use Rattle.pref_share.specs.Openings.{Opening}
use Rattle.pref_share.specs.Interleavings.{IsSequential, acts_of}
use Rattle.pref_share.specs.Runs.{IsJointRun}
use Rattle.pref_share.specs.Reports.{RefusesRun}
use Rattle.pref_share.specs.Standing.{newcomers}
use Rattle.pref_share.specs.declared.fault.ShareFault.{ShareFault}
use Rattle.pref_share.specs.declared.fault.ShareFault.TheVariants as share
use Rattle.pref_script.specs.Commands.{Command, refused, runs, accepted_events}
use Rattle.pref_script.specs.Output.{Script, ScriptFault, script_of}
use Rattle.pref_script.specs.Text.{◌<>◌, refused_line, reply_lines, texts}
use Rattle.pref_script.specs.declared.fault.RunFault.{RunFault}
use Rattle.pref_script.specs.declared.fault.RunFault.TheVariants as fault

-- whether one of this many clients has this number
abbrev pub is_client : ℕ → ℕ → Bool
is_client clients number = nat_lt 0 number && nat_le number clients

-- the acts of a script's clients, a list for each
abbrev pub acts_of_clients : ℕ → List Command → List (List Act)
acts_of_clients clients commands = map (λ client. acts_of client (accepted_events commands)) (range_with_len 1 clients)

-- what is printed for a command that belongs to no client: a refused line, or an event of a client that does not exist
abbrev pub unowned_line : ℕ → ℕ → Command → List ℕ
unowned_line clients width (refused number why) = refused_line number why
unowned_line clients width (runs event) = if is_client clients event.client then [] else reply_lines width event.client (Refused NoSuchClient)

-- the lines of all these, in order of the script
abbrev pub unowned_lines : ℕ → ℕ → List Command → List ℕ
unowned_lines clients width commands = texts (unowned_line clients width) commands

-- the lines of each client's replies, in order of the clients, of which the first has this number
unfoldable pub clients_lines : ℕ → ℕ → List (List Reply) → List ℕ
clients_lines width client [] = []
clients_lines width client (replies ∷ more) = texts (reply_lines width client) replies <> clients_lines width (client + 1) more

-- the whole output, by the replies to each client
abbrev pub threads_text : Limits → Script → List (List Reply) → List ℕ
threads_text limits script replies = unowned_lines limits.clients (length script.names) script.commands <> clients_lines (length script.names) 1 replies

-- what the board of a script opens with
abbrev pub opening_of : Limits → Script → Opening
opening_of limits script = record { limits = limits; rows = script.rows }

-- The text is the output of a joint run: one legal history gives these replies to the acts of the script's clients, and so does the
-- sequential table for one interleaving of them.
pub record PrintsJointRun (limits : Limits) (script : Script) (text : List ℕ) : Type 0 where
  pub replies : List (List Reply)
  pub joint : IsJointRun (opening_of limits script) (newcomers limits.clients) (acts_of_clients limits.clients script.commands) replies
  pub sequential : IsSequential (opening_of limits script) (acts_of_clients limits.clients script.commands) replies
  pub returned : text ≡ threads_text limits script replies

-- why the acts of all clients have no replies, behind a gate that says this of each turn with its answer: the board was not opened, or the run
-- of its clients is refused
abbrev pub ClosesOrStops : Opening → (ℕ → ℕ → Bool → Type 0) → List (List Act) → ShareFault → Type 0
ClosesOrStops o says acts why = (why ≡ share.Closed) ⊎ RefusesRun o says (newcomers o.limits.clients) acts why

-- the same, for another reason than out of memory
abbrev pub StopsClients : Opening → (ℕ → ℕ → Bool → Type 0) → List (List Act) → ShareFault → Type 0
StopsClients o says acts (share.Core why) = ⊥
StopsClients o says acts why = ClosesOrStops o says acts why

-- what an input gives whose clients run on threads behind such a gate: the text of a joint run, a fault, or why they were stopped
abbrev pub PrintsOnThreads : Limits → (ℕ → ℕ → Bool → Type 0) → List ℕ → Result (List ℕ) RunFault → Type 0
PrintsOnThreads limits says bytes (Ok text) = (script : Script) × (script_of limits bytes ≡ Ok script) × PrintsJointRun limits script text
PrintsOnThreads limits says bytes (Err (fault.Threads why)) = (script : Script) × (script_of limits bytes ≡ Ok script) × StopsClients (opening_of limits script) says (acts_of_clients limits.clients script.commands) why
PrintsOnThreads limits says bytes (Err why) = ScriptFault why (script_of limits bytes)

-- what a gate says that is always open
abbrev pub always_open : ℕ → ℕ → Bool → Type 0
always_open client turn answer = answer ≡ true

-- no client was held
abbrev pub HoldsNobody : RunFault → Type 0
HoldsNobody (fault.Threads (share.Held client)) = ⊥
HoldsNobody why = Unit {0}
