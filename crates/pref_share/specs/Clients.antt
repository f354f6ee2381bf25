-- What a client's numbered calls do. (this project)
use Rattle.std.specs.Prelude.{◌≡◌, ℕ, suc, ◌<◌, nat_lt, Bool, true, List, [], ◌∷◌, ◌++◌, Option, Some, None, is_some}
use mathlib.Core.List.{IsPrefix}
use Rattle.pref_term.specs.Question.{Question}
use Rattle.pref_sky.specs.declared.entry.Ranked.{Ranked}
use Rattle.pref_sky.specs.Answers.{answer_of}
use Rattle.pref_core.specs.declared.call.Op.{Op}
use Rattle.pref_core.specs.declared.call.Call.{Call}
use Rattle.pref_core.specs.declared.call.Call.TheVariants.{Commit, Begin, Finish}
use Rattle.pref_core.specs.declared.call.Outcome.{Outcome}
use Rattle.pref_core.specs.declared.call.Outcome.TheVariants.{Done, NoSuchRow, Full}
use Rattle.pref_core.specs.declared.fault.CoreFault.{CoreFault}
use Rattle.pref_core.specs.declared.fault.CoreFault.TheVariants.{NotDone, NoSuchRow as MissingRow, Full as TooFull, OutOfMemory}
use Rattle.pref_core.specs.declared.changes.Change.{Change}
use Rattle.pref_core.specs.declared.event.Committed.{Committed}
use Rattle.pref_core.specs.Table.{entries}
use Rattle.pref_core.specs.State.{added, success_outcome, outcome, refusal_of}
use Rattle.pref_core.specs.Step.{committed_of}
use Rattle.pref_core.specs.History.{numbered_of}
use Rattle.pref_core.specs.Scans.{begin}
use Rattle.pref_core.specs.Limits.{blocks}
use Rattle.pref_share.specs.declared.fault.ShareFault.{ShareFault}
use Rattle.pref_share.specs.declared.fault.ShareFault.TheVariants.{Core, ClientInUse, Held, Closed}
use Rattle.pref_share.specs.declared.fault.BeginFault.{BeginFault}
use Rattle.pref_share.specs.Openings.{Opening, IsLegalFrom, state_at, calls_at}
use Rattle.pref_share.specs.Standing.{Asking, Standing}

-- why the client's call gets no number, by its own counter and query
abbrev pub own_refusal : Standing → Call → Option CoreFault
own_refusal s call = refusal_of (Some s.counter) (is_some s.query) call

-- The call joined the history: what was seen then ends with it, and its outcome is the sequential table's at that place.
pub record Joins (o : Opening) (old : Standing) (call : Call) (returned : Outcome) (new : Standing) : Type 0 where
  pub accepted : own_refusal old call ≡ None
  pub before : List Op
  pub op : Op
  pub further : IsPrefix old.seen before
  pub ends : new.seen ≡ before ++ op ∷ []
  pub is : numbered_of op ≡ record { client = old.number; number = suc old.counter; call = call; outcome = returned }
  pub alone : calls_at o before old.number ≡ Some old.counter
  pub reply : returned ≡ outcome o.limits.capacity (state_at o before) call
  pub legal : IsLegalFrom o new.seen
  pub counted : new.counter ≡ suc old.counter
  pub same : new.number ≡ old.number

-- the same, and the open query stays
abbrev pub Changes : Opening → Standing → Call → Outcome → Standing → Type 0
Changes o old call returned new = Joins o old call returned new × (new.query ≡ old.query)

-- the changes of a commit joined the history as one call, which added its rows from the returned id on, and this is returned of it
abbrev pub Commits : Opening → Standing → List Change → Committed → Standing → Type 0
Commits o old commit returned new = Changes o old (Commit commit) (success_outcome returned.first (Commit commit)) new × (returned ≡ committed_of returned.first commit)

-- no call was made, and no less was seen
pub record Sees (o : Opening) (old new : Standing) : Type 0 where
  pub further : IsPrefix old.seen new.seen
  pub legal : IsLegalFrom o new.seen
  pub counted : new.counter ≡ old.counter
  pub same : new.number ≡ old.number
  pub query : new.query ≡ old.query

-- whether a change asks for memory: for the places of new rows in the index
abbrev pub asks_for_memory : Call → Bool
asks_for_memory call = nat_lt 0 (added call)

-- What a refusal of a change says, and what it leaves. That a row is missing, or the table full, is an outcome of a call that joined.
abbrev pub RefusesChange : Opening → Standing → Call → ShareFault → Standing → Type 0
RefusesChange o old call (Core (MissingRow id)) new = Changes o old call (NoSuchRow id) new
RefusesChange o old call (Core (TooFull needed)) new = Changes o old call (Full needed) new
RefusesChange o old call (Core OutOfMemory) new = (asks_for_memory call ≡ true) × (own_refusal old call ≡ None) × (new ≡ old)
RefusesChange o old call (Core fault) new = (own_refusal old call ≡ Some fault) × (new ≡ old)
RefusesChange o old call (ClientInUse number) new = ⊥
RefusesChange o old call (Held client) new = ⊥
RefusesChange o old call Closed new = ⊥

-- the same, for a begin and an abandon, which ask for no memory
abbrev pub RefusesCall : Opening → Standing → Call → ShareFault → Standing → Type 0
RefusesCall o old call (Core OutOfMemory) new = ⊥
RefusesCall o old call (Core fault) new = (own_refusal old call ≡ Some fault) × (new ≡ old)
RefusesCall o old call (ClientInUse number) new = ⊥
RefusesCall o old call (Held client) new = ⊥
RefusesCall o old call Closed new = ⊥

-- a begin hands its ask back
abbrev pub RefusesBegin : Opening → Standing → Question → BeginFault → Standing → Type 0
RefusesBegin o old ask refused new = (refused.ask ≡ ask) × RefusesCall o old Begin refused.fault new

-- A query began: it has scanned nothing, and looks at the table as its begin left it.
pub record Begins (o : Opening) (old : Standing) (ask : Question) (left : ℕ) (new : Standing) : Type 0 where
  pub joins : Joins o old Begin Done new
  pub query : new.query ≡ Some (record { scan = begin ask (state_at o new.seen).commits o.limits; at_begin = new.seen })
  pub left_is : left ≡ blocks o.limits

-- the open query has no block left, and this is its answer, by the table at its begin
pub record IsAnswer (o : Opening) (s : Standing) (ranked : List Ranked) : Type 0 where
  pub asking : Asking
  pub is_open : s.query ≡ Some asking
  pub done : asking.scan.left ≡ 0
  pub answer : ranked ≡ answer_of asking.scan.ask (entries (state_at o asking.at_begin).table)

-- a query is open, and has no block left
pub record HasNoneLeft (s : Standing) : Type 0 where
  pub asking : Asking
  pub is_open : s.query ≡ Some asking
  pub done : asking.scan.left ≡ 0

-- the open query has this many blocks left
pub record HasLeft (s : Standing) (left : ℕ) : Type 0 where
  pub asking : Asking
  pub is_open : s.query ≡ Some asking
  pub left_is : left ≡ asking.scan.left
  pub some : 0 < left

-- A query ended with its answer.
pub record Finishes (o : Opening) (old : Standing) (ranked : List Ranked) (new : Standing) : Type 0 where
  pub joins : Joins o old Finish Done new
  pub query : new.query ≡ None
  pub answer : IsAnswer o old ranked

-- the same, for a finish: memory is met where no block is left
abbrev pub RefusesFinish : Opening → Standing → ShareFault → Standing → Type 0
RefusesFinish o old (Core (NotDone left)) new = (own_refusal old Finish ≡ None) × HasLeft old left × (new ≡ old)
RefusesFinish o old (Core OutOfMemory) new = (own_refusal old Finish ≡ None) × HasNoneLeft old × (new ≡ old)
RefusesFinish o old (Core fault) new = (own_refusal old Finish ≡ Some fault) × (new ≡ old)
RefusesFinish o old (ClientInUse number) new = ⊥
RefusesFinish o old (Held client) new = ⊥
RefusesFinish o old Closed new = ⊥
