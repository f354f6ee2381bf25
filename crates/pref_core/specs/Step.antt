-- The sequential table, event by event: the reply to each, and the state after it. (this project)
use Rattle.std.specs.Prelude.{ℕ, suc, ◌+◌, ◌-◌, ◌^◌, List, [], ◌∷◌, map, length, Bool, true, false, ◌||◌, nat_lt, if◌then◌else◌, Option, Some, None, replicate}
use Rattle.std.specs.Option.{option_map}
use Rattle.pref_term.specs.Question.{Question}
use Rattle.pref_sky.specs.Answers.{answer_of}
use Rattle.pref_core.specs.declared.call.Call.{Call}
use Rattle.pref_core.specs.declared.call.Call.TheVariants.{Insert as CallInsert, Update as CallUpdate, Delete as CallDelete, Commit as CallCommit}
use Rattle.pref_core.specs.declared.changes.Change.{Change}
use Rattle.pref_core.specs.declared.call.Outcome.{Outcome}
use Rattle.pref_core.specs.declared.call.Outcome.TheVariants.{Added, Done, NoSuchRow, Full}
use Rattle.pref_core.specs.declared.event.Committed.{Committed}
use Rattle.pref_core.specs.declared.event.Event.{Event}
use Rattle.pref_core.specs.declared.event.Act.{Act}
use Rattle.pref_core.specs.declared.event.Act.TheVariants.{Insert, Update, Delete, Commit, Begin, Scan, Finish, Abandon, Get, Room}
use Rattle.pref_core.specs.declared.event.Reply.{Reply}
use Rattle.pref_core.specs.declared.event.Reply.TheVariants.{Inserted, Updated, Deleted, Committed as CommittedIs, Begun, Left, Answer, Abandoned, Found, Room as RoomIs, Refused}
use Rattle.pref_core.specs.declared.fault.CoreFault.{CoreFault}
use Rattle.pref_core.specs.declared.fault.CoreFault.TheVariants.{NoSuchClient, Spent, QueryOpen, NoQuery, AllScanned, NotDone, NoSuchRow as MissingRow, Full as TooFull}
use Rattle.pref_core.specs.Changes.{added_by}
use Rattle.pref_core.specs.Rows.{Row}
use Rattle.pref_core.specs.Limits.{Limits, blocks}
use Rattle.pref_core.specs.Table.{Line, line_of, entries}
use Rattle.pref_core.specs.State.{State, Client, Snapshot, seat, with_seat, committed, outcome, needed, opening_table}

-- an open query: its question, the table and the number of commits at its begin, and how many blocks it hasn't scanned
pub record Open : Type 0 where
  pub ask : Question
  pub table : List Line
  pub commits : ℕ
  pub left : ℕ

-- a client: how many numbered calls it has made, and its open query
pub record Member : Type 0 where
  pub calls : ℕ
  pub query : Option Open

-- the table, the id of the next row, how many commits there were, and the clients in order of number
pub record System : Type 0 where
  pub table : List Line
  pub next_id : ℕ
  pub commits : ℕ
  pub members : List Member

-- What a history of calls determines: the system with asks and blocks left out of account.
abbrev pub snapshot : Open → Snapshot
snapshot query = record { table = query.table; commits = query.commits }

-- a client with its ask and blocks left out
abbrev pub client_of : Member → Client
client_of member = record { calls = member.calls; at_begin = option_map snapshot member.query }

-- and the state that way
abbrev pub state_of : System → State
state_of system = record { table = system.table; next_id = system.next_id; commits = system.commits; clients = map client_of system.members }

-- a reply, and the system after it
pub record Step : Type 0 where
  pub reply : Reply
  pub next : System

-- a refusal that changes nothing
abbrev pub refused : CoreFault → System → Step
refused fault system = record { reply = Refused fault; next = system }

-- the client has made one call more, and has this query
abbrev pub counted_with : Option Open → ℕ → Member → System → System
counted_with query client member system = record system { members = with_seat client (record { calls = suc member.calls; query = query }) system.members }

-- one block less is left
abbrev pub one_less : Open → Open
one_less query = record query { left = query.left - 1 }

-- the client has this query
abbrev pub scanned_with : Open → ℕ → Member → System → System
scanned_with query client member system = record system { members = with_seat client (record { calls = member.calls; query = Some query }) system.members }

-- the rows and numbers after one commit
abbrev pub commit : Call → System → System
commit call system = let state = committed call (state_of system) in record { table = state.table; next_id = state.next_id; commits = state.commits; members = system.members }

-- a change by its outcome: it counts a call, and where it succeeds it is one commit
abbrev pub changed : Outcome → Reply → Call → System → Step
changed (NoSuchRow id) done call counted = record { reply = Refused (MissingRow id); next = counted }
changed (Full size) done call counted = record { reply = Refused (TooFull size); next = counted }
changed (Added id) done call counted = record { reply = done; next = commit call counted }
changed Done done call counted = record { reply = done; next = commit call counted }

-- what comes of a change
abbrev pub change : Limits → System → ℕ → Member → Call → Reply → Step
change limits system client member call done = changed (outcome limits.capacity (state_of system) call) done call (counted_with member.query client member system)

-- what a commit that succeeds returns: how many changes it made, and the id of the first row that it added, 0 where it added none
abbrev pub committed_of : ℕ → List Change → Committed
committed_of next_id changes = record { changes = length changes; first = if nat_lt 0 (added_by changes) then next_id else 0 }

-- a query ends with its answer once no block is left
abbrev pub finish : ℕ → Member → System → Open → Step
finish client member system query = if nat_lt 0 query.left
    then refused (NotDone query.left) system
    else record { reply = Answer (answer_of query.ask (entries query.table)); next = counted_with None client member system }

-- a query scans a block where one is left
abbrev pub scan : ℕ → Member → System → Open → Step
scan client member system query = if nat_lt 0 query.left
    then record { reply = Left (query.left - 1); next = scanned_with (one_less query) client member system }
    else refused AllScanned system

-- a query as it begins: it has the table of then, and no block of it is scanned
abbrev pub query_of : Question → Limits → System → Open
query_of ask limits system = record { ask = ask; table = system.table; commits = system.commits; left = blocks limits }

-- what comes of an act that a client may make, by its open query
abbrev pub acted : Limits → System → ℕ → Member → Act → Option Open → Step
acted limits system client member (Insert row) query = change limits system client member (CallInsert row) (Inserted system.next_id)
acted limits system client member (Update id row) query = change limits system client member (CallUpdate id row) (Updated id)
acted limits system client member (Delete id) query = change limits system client member (CallDelete id) (Deleted id)
acted limits system client member (Commit changes) query = change limits system client member (CallCommit changes) (CommittedIs (committed_of system.next_id changes))
acted limits system client member (Begin ask) None = record { reply = Begun (blocks limits); next = counted_with (Some (query_of ask limits system)) client member system }
acted limits system client member (Begin ask) (Some query) = refused QueryOpen system
acted limits system client member Scan None = refused NoQuery system
acted limits system client member Scan (Some query) = scan client member system query
acted limits system client member Finish None = refused NoQuery system
acted limits system client member Finish (Some query) = finish client member system query
acted limits system client member Abandon None = refused NoQuery system
acted limits system client member Abandon (Some query) = record { reply = Abandoned; next = counted_with None client member system }
acted limits system client member (Get id) query = record { reply = elim (line_of system.table id) [ None ↦ Refused (MissingRow id) | Some line ↦ Found id line.row ]; next = system }
acted limits system client member Room query = record { reply = RoomIs (limits.capacity - length (needed (state_of system))); next = system }

-- the acts that are reads; all others are numbered
abbrev pub is_read : Act → Bool
is_read Scan = true
is_read (Get id) = true
is_read Room = true
is_read act = false

-- what comes of an event: there has to be such a client, and it makes 2^56 numbered calls at most
abbrev pub step : Limits → System → Event → Step
step limits system event = elim (seat event.client system.members) [
  | None ↦ refused NoSuchClient system
  | Some member ↦ if is_read event.act || nat_lt member.calls (2 ^ 56)
      then acted limits system event.client member event.act member.query
      else refused Spent system
]

-- the opening rows as commits 1, 2, .. with ids 1, 2, .., and no call made
abbrev pub opened : Limits → List Row → System
opened limits rows = record { table = opening_table 0 rows; next_id = length rows + 1; commits = length rows; members = replicate limits.clients (record { calls = 0; query = None }) }

-- the replies along the list of events
abbrev pub replies_from : Limits → System → List Event → List Reply
replies_from limits system [] = []
replies_from limits system (event ∷ events) = (step limits system event).reply ∷ replies_from limits (step limits system event).next events

-- the replies to a list of events, from the opening rows on
abbrev pub replies : Limits → List Row → List Event → List Reply
replies limits rows events = replies_from limits (opened limits rows) events
