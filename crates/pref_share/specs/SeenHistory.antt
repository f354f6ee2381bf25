-- No public contract cites this.
-- What the history that a client has seen says of its counter and its open query, and what becomes of its calls.
use Rattle.std.specs.Prelude.{◌≡◌, ◌⊎◌, ℕ, ◌<◌, ◌≤◌, nat_lt, true, List, [], ◌∷◌, ◌++◌, Option, Some, None, Result, Ok, Err}
use mathlib.Core.List.{IsPrefix}
use Rattle.pref_core.specs.declared.call.Call.{Call}
use Rattle.pref_core.specs.declared.call.Op.{Op}
use Rattle.pref_core.specs.declared.call.Outcome.{Outcome}
use Rattle.pref_core.specs.declared.call.Outcome.TheVariants.{Added}
use Rattle.pref_core.specs.declared.fault.CoreFault.{CoreFault}
use Rattle.pref_core.specs.declared.fault.CoreFault.TheVariants.{NotDone, OutOfMemory}
use Rattle.pref_core.specs.State.{Snapshot, added, begun_of, refusal, refusal_by_outcome}
use Rattle.pref_core.specs.Queries.{IsOnItsWay}
use Rattle.pref_share.specs.Book.{count_by}
use Rattle.pref_share.specs.declared.client.calls.Joined.{Joined}
use Rattle.pref_share.specs.declared.fault.ShareFault.{ShareFault}
use Rattle.pref_share.specs.declared.fault.ShareFault.TheVariants.{Core}
use Rattle.pref_share.specs.Openings.{Opening, IsLegalFrom, MayFollow, contents_at, state_at, calls_at}
use Rattle.pref_share.specs.Standing.{Asking, Standing}
use Rattle.pref_share.specs.Clients.{HasLeft, HasNoneLeft}

-- what a query found that began at the end of this history
abbrev pub snapshot_at : Opening → List Op → Snapshot
snapshot_at o begun = record { table = (state_at o begun).table; commits = (state_at o begun).commits }

-- the open query is the one that the sequential table has here for the client
pub record Asks (o : Opening) (at : List Op) (number : ℕ) (asking : Asking) : Type 0 where
  pub at_begin : IsPrefix asking.at_begin at
  pub found : begun_of (state_at o at) number ≡ Some (snapshot_at o asking.at_begin)
  pub stamp : asking.scan.stamp ≡ (state_at o asking.at_begin).commits
  pub way : IsOnItsWay (contents_at o at).slots asking.scan

-- the same, or none is open
abbrev pub AsksOrNone : Opening → List Op → ℕ → Option Asking → Type 0
AsksOrNone o at number None = begun_of (state_at o at) number ≡ None
AsksOrNone o at number (Some asking) = Asks o at number asking

-- Some beginning of what was seen holds just the calls that the client counts, and has its query.
pub record Stands (o : Opening) (number counter : ℕ) (seen : List Op) (query : Option Asking) : Type 0 where
  pub legal : IsLegalFrom o seen
  pub one_of : (0 < number) × (number ≤ o.limits.clients)
  pub at : List Op
  pub before : IsPrefix at seen
  pub count : calls_at o at number ≡ Some counter
  pub follows : AsksOrNone o at number query

-- A client's call was appended to a history, as a legal operation with this outcome.
pub record IsAppended (o : Opening) (before : List Op) (client : ℕ) (call : Call) (returned : Outcome) (whole : List Op) : Type 0 where
  pub op : Op
  pub by : op.client ≡ client
  pub what : op.call ≡ call
  pub outcome : op.outcome ≡ returned
  pub may : MayFollow o before op
  pub ends : whole ≡ before ++ op ∷ []

-- The history under the lock, when a client calls: it begins with what the client has seen, and holds no more calls of it than it has
-- made.
pub record IsTurn (o : Opening) (number made : ℕ) (seen before : List Op) : Type 0 where
  pub further : IsPrefix seen before
  pub legal : IsLegalFrom o before
  pub few : count_by number before ≤ made

-- The call joined there.
pub record JoinsBehind (o : Opening) (number made : ℕ) (seen : List Op) (call : Call) (joined : Joined (List Op)) : Type 0 where
  pub before : List Op
  pub turn : IsTurn o number made seen before
  pub appended : IsAppended o before number call joined.outcome joined.seen
  pub commits : joined.stamp ≡ (state_at o joined.seen).commits

-- It gets no number there, or there is no memory for it.
pub record RefusesToJoin (o : Opening) (number made : ℕ) (seen : List Op) (call : Call) (fault : CoreFault) : Type 0 where
  pub before : List Op
  pub turn : IsTurn o number made seen before
  pub why : (refusal (state_at o before) number call ≡ Some fault) ⊎ ((fault ≡ OutOfMemory) × (nat_lt 0 (added call) ≡ true))

-- the outcome of a change, or the refusal that it is
abbrev pub outcome_or_refusal : Outcome → Result Outcome ShareFault
outcome_or_refusal outcome = elim (refusal_by_outcome outcome) [ None ↦ Ok outcome | Some fault ↦ Err (Core fault) ]

-- the id of the first row that a change with this outcome added, 0 where it added none
abbrev pub first_added_id : Outcome → ℕ
first_added_id (Added first) = first
first_added_id outcome = 0

-- why an open query gives no answer
abbrev pub GivesNone : Standing → CoreFault → Type 0
GivesNone s (NotDone left) = HasLeft s left
GivesNone s OutOfMemory = HasNoneLeft s
GivesNone s fault = ⊥
