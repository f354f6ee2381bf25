-- Acts of clients on threads, and when they with their replies are one run of the sequential table. (this project)
use Rattle.std.specs.Prelude.{◌≡◌, ℕ, suc, ◌<◌, Bool, true, false, List, [], ◌∷◌, ◌++◌, length, Option, Some, None, Result, Ok, Err, MatchResult, ◌⊎◌}
use Rattle.std.specs.Option.{option_map}
use mathlib.Core.List.{IsPrefix}
use Rattle.pref_core.specs.declared.call.Op.{Op}
use Rattle.pref_core.specs.declared.call.Call.{Call}
use Rattle.pref_core.specs.declared.call.Call.TheVariants.{Insert as CallInsert, Update as CallUpdate, Delete as CallDelete, Commit as CallCommit, Begin as CallBegin, Finish as CallFinish, Abandon as CallAbandon}
use Rattle.pref_core.specs.declared.event.Act.{Act}
use Rattle.pref_core.specs.declared.event.Act.TheVariants.{Insert, Update, Delete, Commit, Begin, Finish, Abandon}
use Rattle.pref_core.specs.declared.event.Reply.{Reply}
use Rattle.pref_core.specs.declared.event.Reply.TheVariants.{Refused}
use Rattle.pref_core.specs.declared.fault.CoreFault.TheVariants.{OutOfMemory}
use Rattle.pref_core.specs.State.{seat}
use Rattle.pref_core.specs.Step.{Open, Member, System, Step, state_of, step}
use Rattle.pref_core.specs.Systems.{may_want_memory}
use Rattle.pref_share.specs.declared.fault.ShareFault.{ShareFault}
use Rattle.pref_share.specs.declared.fault.ShareFault.TheVariants.{Core, ClientInUse, Held, Closed}
use Rattle.pref_share.specs.Openings.{Opening, IsLegalFrom, state_at, calls_at}
use Rattle.pref_share.specs.Standing.{Asking, Standing}
use Rattle.pref_share.specs.Clients.{Sees}

-- the open query of a client, as its own acts give it: the table at its begin is that of the history that it began at
abbrev pub open_of : Opening → Asking → Open
open_of o asking = record { ask = asking.scan.ask; table = (state_at o asking.at_begin).table; commits = (state_at o asking.at_begin).commits; left = asking.scan.left }

-- the client, as its own acts give it
abbrev pub member_of : Opening → Standing → Member
member_of o s = record { calls = s.counter; query = option_map (open_of o) s.query }

-- the numbered call that an act is
abbrev pub call_of : Act → Option Call
call_of (Insert row) = Some (CallInsert row)
call_of (Update id row) = Some (CallUpdate id row)
call_of (Delete id) = Some (CallDelete id)
call_of (Commit commit) = Some (CallCommit commit)
call_of (Begin ask) = Some CallBegin
call_of Finish = Some CallFinish
call_of Abandon = Some CallAbandon
call_of act = None

-- the step of the sequential table for a client's act
abbrev pub step_by : Opening → Standing → Act → System → Step
step_by o s act system = step o.limits system (record { client = s.number; act = act })

-- In a system that has this client as its own acts give it, the sequential table gives this reply, goes on to the state of
-- the history that was seen then, and has the client as its acts give it then.
pub record IsStep (o : Opening) (s : Standing) (act : Act) (reply : Reply) (t : Standing) (system : System) : Type 0 where
  pub reply_is : (step_by o s act system).reply ≡ reply
  pub state : state_of (step_by o s act system).next ≡ state_at o t.seen
  pub member : seat s.number (step_by o s act system).next.members ≡ Some (member_of o t)

-- no call joined the history, and the act was answered at what was seen then
pub record Looks (s t : Standing) (at : List Op) : Type 0 where
  pub seen : t.seen ≡ at
  pub counted : t.counter ≡ s.counter

-- the act is a call that joined the history, behind the place where it was answered
pub record Adds (o : Opening) (s : Standing) (act : Act) (t : Standing) (at : List Op) : Type 0 where
  pub op : Op
  pub seen : t.seen ≡ at ++ op ∷ []
  pub call : call_of act ≡ Some op.call
  pub by : op.client ≡ s.number
  pub number : op.number ≡ suc s.counter
  pub counted : t.counter ≡ suc s.counter
  pub alone : calls_at o at s.number ≡ Some s.counter

-- One act: at some place of the history, no earlier than what was seen before, its reply is the sequential table's, whatever the
-- other clients ask and however many blocks they have left.
pub record StepsTo (o : Opening) (s : Standing) (act : Act) (reply : Reply) (t : Standing) : Type 0 where
  pub at : List Op
  pub further : IsPrefix s.seen at
  pub legal : IsLegalFrom o t.seen
  pub same : t.number ≡ s.number
  pub joins : Looks s t at ⊎ Adds o s act t at
  pub returned : (system : System) → state_of system ≡ state_at o at → seat s.number system.members ≡ Some (member_of o s) → IsStep o s act reply t system

-- acts in order, with the reply to each, and the client after each
pub data Runs (o : Opening) (s : Standing) : List Act → List Reply → List Standing → Standing → Type 0 where
  none : Runs o s [] [] [] s
  then : (acts : List Act) (replies : List Reply) (stands : List Standing) (t : Standing) (act : Act) (reply : Reply) (u : Standing) → Runs o s acts replies stands t → StepsTo o t act reply u
      → Runs o s (acts ++ act ∷ []) (replies ++ reply ∷ []) (stands ++ u ∷ []) u

-- some acts with their replies, from one state of the client to another
pub record RunsTo (o : Opening) (s : Standing) (acts : List Act) (replies : List Reply) (t : Standing) : Type 0 where
  pub stands : List Standing
  pub runs : Runs o s acts replies stands t

-- The client has seen a beginning of the history, which holds just the calls that it made.
pub record StandsWithin (o : Opening) (history : List Op) (client : Standing) : Type 0 where
  pub inside : IsPrefix client.seen history
  pub alone : calls_at o history client.number ≡ Some client.counter

-- One client's acts with their replies are its part of the history: they lead to a client that has seen a beginning of it, and made all its calls there.
pub record IsPart (o : Opening) (history : List Op) (s : Standing) (acts : List Act) (replies : List Reply) : Type 0 where
  pub last : Standing
  pub runs : RunsTo o s acts replies last
  pub within : StandsWithin o history last

-- this holds of what stands at each place of these lists, which are of one length
abbrev pub Each : {A B C : Type 0} → (A → B → C → Type 0) → List A → List B → List C → Type 0
Each Holds [] [] [] = Unit {0}
Each Holds (x ∷ xs) (y ∷ ys) (z ∷ zs) = Holds x y z × Each Holds xs ys zs
Each Holds xs ys zs = ⊥

-- Act lists with the replies to each, one list for each client, are a joint run: there is one legal history of which each is a part.
pub record IsJointRun (o : Opening) (clients : List Standing) (acts : List (List Act)) (replies : List (List Reply)) : Type 0 where
  pub history : List Op
  pub legal : IsLegalFrom o history
  pub each : Each (IsPart o history) clients acts replies

-- the next of these acts is no numbered call: a scan, a get or a room
abbrev pub ReadsNext : List Act → Type 0
ReadsNext [] = ⊥
ReadsNext (next ∷ more) = call_of next ≡ None

-- the next of these acts may ask for memory
abbrev pub WantsMemoryNext : List Act → Type 0
WantsMemoryNext [] = ⊥
WantsMemoryNext (next ∷ more) = may_want_memory next ≡ true

-- Why a client stops that is so then, with these acts left: out of memory, at an act that may ask for it; held before an act, of which
-- the gate says this by the client's number; or closed, at an act that is no numbered call.
abbrev pub StopsAt : (ℕ → Type 0) → Standing → List Act → ShareFault → Type 0
StopsAt held s rest (Core fault) = (fault ≡ OutOfMemory) × WantsMemoryNext rest
StopsAt held s rest (ClientInUse number) = ⊥
StopsAt held s rest (Held client) = (client ≡ s.number) × (0 < length rest) × held client
StopsAt held s rest Closed = ReadsNext rest

-- where there is no gate
abbrev pub nobody : ℕ → Type 0
nobody client = ⊥

-- the reply that a refusal of the table is; any other stops the client
abbrev pub reply_or_stop : ShareFault → Result Reply ShareFault
reply_or_stop (Core OutOfMemory) = Err (Core OutOfMemory)
reply_or_stop (Core fault) = Ok (Refused fault)
reply_or_stop fault = Err fault

-- whether an act changes one row
abbrev pub changes_one_row : Act → Bool
changes_one_row (Insert row) = true
changes_one_row (Update id row) = true
changes_one_row (Delete id) = true
changes_one_row other = false

-- an act, done, or why it stops the client
abbrev pub Performs : Opening → Standing → Act → Result Reply ShareFault → Standing → Type 0
Performs o old act result new = MatchResult result (λ reply. StepsTo o old act reply new) (λ fault. Sees o old new × StopsAt nobody new (act ∷ []) fault)
