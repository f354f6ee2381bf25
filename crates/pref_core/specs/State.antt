-- The sequential table's state as far as a history of calls determines it, and what a numbered call does to it. (this project)
use Rattle.std.specs.Prelude.{ℕ, zero, suc, ◌+◌, ◌^◌, List, [], ◌∷◌, ◌++◌, length, Bool, true, false, not, ◌&&◌, nat_lt, if◌then◌else◌, Option, Some, None, is_some, slice_get, slice_set}
use Rattle.std.specs.List.{find}
use Rattle.pref_core.specs.Rows.{Row}
use Rattle.pref_core.specs.declared.call.Call.{Call}
use Rattle.pref_core.specs.declared.call.Call.TheVariants.{Insert, Update, Delete, Commit, Begin, Finish, Abandon}
use Rattle.pref_core.specs.declared.changes.Change.{Change}
use Rattle.pref_core.specs.declared.changes.Change.TheVariants.{Add, Set, Remove}
use Rattle.pref_core.specs.declared.call.QueryState.{QueryState}
use Rattle.pref_core.specs.declared.call.QueryState.TheVariants.{Open, NotOpen}
use Rattle.pref_core.specs.declared.call.Outcome.{Outcome}
use Rattle.pref_core.specs.declared.call.Outcome.TheVariants.{Added, Done, NoSuchRow, Full}
use Rattle.pref_core.specs.declared.fault.CoreFault.{CoreFault}
use Rattle.pref_core.specs.declared.fault.CoreFault.TheVariants.{NoSuchClient, Spent, QueryOpen, NoQuery, NoSuchRow as MissingRow, Full as TooFull}
use Rattle.pref_core.specs.Changes.{ended_by, begun_by, added_by, begins_any, is_commit}
use Rattle.pref_core.specs.Table.{Line, Key, has, without, with_rows, keys, different}
use Rattle.pref_sky.specs.declared.entry.Entry.{Entry}

-- the table as an open query found it at its begin
pub record Snapshot : Type 0 where
  pub table : List Line
  pub commits : ℕ

-- a client: how many numbered calls it has made, and what its open query found
pub record Client : Type 0 where
  pub calls : ℕ
  pub at_begin : Option Snapshot

-- the table, the id of the next row, how many commits there were, and the clients in order of number
pub record State : Type 0 where
  pub table : List Line
  pub next_id : ℕ
  pub commits : ℕ
  pub clients : List Client

-- the opening rows as commits 1, 2, .. with ids 1, 2, ..
abbrev pub opening_table : ℕ → List Row → List Line
opening_table before [] = []
opening_table before (row ∷ rows) = record { id = suc before; made = suc before; row = row } ∷ opening_table (suc before) rows

-- clients without a call
abbrev pub idle_clients : ℕ → List Client
idle_clients zero = []
idle_clients (suc n) = record { calls = 0; at_begin = None } ∷ idle_clients n

-- the state of a table that begins with these rows
abbrev pub opening : ℕ → List Row → State
opening clients rows = record { table = opening_table 0 rows; next_id = length rows + 1; commits = length rows; clients = idle_clients clients }

-- what a client has, of which the first has the number 1
abbrev pub seat : {X : Type 0} → ℕ → List X → Option X
seat zero xs = None
seat (suc k) xs = slice_get xs k

-- the same, changed
abbrev pub with_seat : {X : Type 0} → ℕ → X → List X → List X
with_seat zero x xs = xs
with_seat (suc k) x xs = slice_set xs k x

-- whether a client with this query has one open
abbrev pub is_open : QueryState → Bool
is_open Open = true
is_open NotOpen = false

-- the refusals that leave a call without a number: by the open query, ..
abbrev pub refusal_by_query : Bool → Call → Option CoreFault
refusal_by_query true Begin = Some QueryOpen
refusal_by_query false Finish = Some NoQuery
refusal_by_query false Abandon = Some NoQuery
refusal_by_query is_open call = None

-- .. and before that by the client, which makes 2^56 calls at most
abbrev pub refusal_of : Option ℕ → Bool → Call → Option CoreFault
refusal_of None is_open call = Some NoSuchClient
refusal_of (Some calls) is_open call = if nat_lt calls (2 ^ 56) then refusal_by_query is_open call else Some Spent

-- how many calls a client has made
abbrev pub calls_of : State → ℕ → Option ℕ
calls_of state client = elim (seat client state.clients) [ None ↦ None | Some found ↦ Some found.calls ]

-- what its open query found
abbrev pub begun_of : State → ℕ → Option Snapshot
begun_of state client = elim (seat client state.clients) [ None ↦ None | Some found ↦ found.at_begin ]

-- why a call gets no number, if so
abbrev pub refusal : State → ℕ → Call → Option CoreFault
refusal state client call = refusal_of (calls_of state client) (is_some (begun_of state client)) call

-- the changes of a call: an insert, an update and a delete are commits of one change
abbrev pub changes_of : Call → List Change
changes_of (Insert row) = Add row ∷ []
changes_of (Update id row) = Set id row ∷ []
changes_of (Delete id) = Remove id ∷ []
changes_of (Commit changes) = changes
changes_of call = []

-- the ids whose rows a call ends
abbrev pub ended : Call → List ℕ
ended call = ended_by (changes_of call)

-- the rows that it begins, by the next id
abbrev pub begun : ℕ → Call → List Entry
begun next_id call = begun_by next_id (changes_of call)

-- how many ids a call uses up
abbrev pub added : Call → ℕ
added call = added_by (changes_of call)

-- whether a call is a commit where it isn't refused
abbrev pub is_change : Call → Bool
is_change (Insert row) = true
is_change (Update id row) = true
is_change (Delete id) = true
is_change (Commit changes) = true
is_change call = false

-- whether the changes of a commit are one: one to eight on different ids
abbrev pub is_formed : Call → Bool
is_formed (Commit changes) = is_commit changes
is_formed call = true

-- one commit: all these rows out and all those in, with one number
abbrev pub committed : Call → State → State
committed call state = record {
  table = with_rows (suc state.commits) (begun state.next_id call) (without (ended call) state.table);
  next_id = state.next_id + added call;
  commits = suc state.commits;
  clients = state.clients;
}

-- the tables that open queries found
abbrev pub found_tables : List Client → List Line
found_tables [] = []
found_tables (client ∷ clients) = elim client.at_begin [ None ↦ found_tables clients | Some snapshot ↦ snapshot.table ++ found_tables clients ]

-- the versions that are in the table or that an open query needs
abbrev pub needed : State → List Key
needed state = different (keys (state.table ++ found_tables state.clients))

-- the first of these ids that isn't in the table
abbrev pub missing : List ℕ → List Line → Option ℕ
missing ids table = find (λ id. not (has table id)) ids

-- the outcome of a change that succeeds: the id of the first row that it adds, if it adds one
abbrev pub success_outcome : ℕ → Call → Outcome
success_outcome next_id call = if nat_lt 0 (added call) then Added next_id else Done

-- whether the call begins a row, so that there must be room
abbrev pub begins_row : Call → Bool
begins_row call = begins_any (changes_of call)

-- how many versions are needed after a change
abbrev pub needed_after : State → Call → ℕ
needed_after state call = length (needed (committed call state))

-- The outcome of a numbered call. Of a change: the first id that it names and the table lacks; else, where it begins a row, that it needs more versions than
-- there are slots; else that it is made. Any other call is done.
abbrev pub outcome : (capacity : ℕ) → State → Call → Outcome
outcome capacity state call = if is_change call
    then elim (missing (ended call) state.table) [
      | Some id ↦ NoSuchRow id
      | None ↦ if begins_row call && nat_lt capacity (needed_after state call) then Full (needed_after state call) else success_outcome state.next_id call
    ]
    else Done

-- whether the call did what it asked
abbrev pub succeeds : Outcome → Bool
succeeds (Added id) = true
succeeds Done = true
succeeds (NoSuchRow id) = false
succeeds (Full needed) = false

-- the refusal that an outcome is, if it is one
abbrev pub refusal_by_outcome : Outcome → Option CoreFault
refusal_by_outcome (NoSuchRow id) = Some (MissingRow id)
refusal_by_outcome (Full size) = Some (TooFull size)
refusal_by_outcome (Added id) = None
refusal_by_outcome Done = None

-- the open query that a call leaves
abbrev pub begun_after : State → Call → Option Snapshot → Option Snapshot
begun_after state Begin found = Some (record { table = state.table; commits = state.commits })
begun_after state Finish found = None
begun_after state Abandon found = None
begun_after state call found = found

-- the client has made one call more
abbrev pub counted : State → ℕ → Call → List Client
counted state client call = elim (seat client state.clients) [
  | None ↦ state.clients
  | Some found ↦ with_seat client (record { calls = suc found.calls; at_begin = begun_after state call found.at_begin }) state.clients
]

-- the state after a numbered call, one that isn't refused 1 to 4
abbrev pub after : ℕ → State → ℕ → Call → State
after capacity state client call =
    let noted = record state { clients = counted state client call } in
    if is_change call then (if succeeds (outcome capacity state call) then committed call noted else noted) else noted
