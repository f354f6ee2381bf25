-- No public contract cites this.
-- What the parts of a machine do.
use Rattle.std.specs.Prelude.{◌≡◌, ◌++◌, ◌^◌, ◌&&◌, ◌||◌, [], ◌∷◌, ℕ, Bool, true, false, if◌then◌else◌, List, nat_lt, Option, Some, None, Result, Ok, Err, MatchResult, alloc_error}
use Rattle.std.specs.declared.alloc.AllocError.{AllocError}
use Rattle.std.specs.Global.{Vec}
use Rattle.pref_sky.specs.declared.entry.Ranked.{Ranked}
use Rattle.pref_core.specs.declared.store.version.Version.{Version}
use Rattle.pref_core.specs.declared.fault.CoreFault.{CoreFault}
use Rattle.pref_core.specs.declared.fault.CoreFault.TheVariants.{NoSuchClient, Spent, NoQuery, OutOfMemory}
use Rattle.pref_core.specs.declared.call.Outcome.{Outcome}
use Rattle.pref_core.specs.declared.call.Outcome.TheVariants.{NoSuchRow, Full}
use Rattle.pref_core.specs.declared.event.Act.TheVariants.{Insert, Update, Delete, Commit, Begin, Finish, Abandon}
use Rattle.pref_core.specs.declared.event.Act.{Act}
use Rattle.pref_core.specs.declared.event.Reply.{Reply}
use Rattle.pref_core.specs.declared.event.Reply.TheVariants.{Inserted, Updated, Deleted, Committed, Refused}
use Rattle.pref_core.specs.State.{with_seat, refusal_by_outcome}
use Rattle.pref_core.specs.Limits.{Limits, AreAllowed}
use Rattle.pref_core.specs.declared.call.Call.{Call}
use Rattle.pref_core.specs.declared.call.Call.TheVariants.{Insert as CallInsert, Update as CallUpdate, Delete as CallDelete, Commit as CallCommit, Begin as CallBegin, Finish as CallFinish, Abandon as CallAbandon}
use Rattle.pref_core.specs.declared.call.Op.{Op}
use Rattle.pref_core.specs.Step.{Open, Member, System, Step, acted, committed_of, is_read, refused}
use Rattle.pref_core.specs.Operations.{IsPlan, applied}
use Rattle.pref_core.specs.Scans.{Scan, NextIsNew, Scans, Answers, begin}
use Rattle.pref_core.specs.Indexes.{IsIndexOf}
use Rattle.pref_core.specs.Systems.{Running, StandsForSystem}
use Rattle.pref_term.specs.Question.{Question}

-- a machine represents a system, and its index is its store's
pub record IsInOrder (running : Running) (index : List (ℕ × ℕ)) : Type 0 where
  pub system : System
  pub stands : StandsForSystem running system
  pub indexed : IsIndexOf running.contents index

-- the query at a client's place can scan its next block
abbrev pub NextIsNewAt : Option (Option Scan) → List (Option Version) → Type 0
NextIsNewAt None slots = Unit {0}
NextIsNewAt (Some None) slots = Unit {0}
NextIsNewAt (Some (Some scan)) slots = NextIsNew scan slots

-- a scan of the query at a client's place, by what is there
pub record ScansOne (scan : Scan) (slots : List (Option Version)) (client : ℕ) (before : List (Option Scan)) (result : Result ℕ CoreFault) (after : List (Option Scan)) : Type 0 where
  pub new : Scan
  pub scans : Scans scan slots result new
  pub placed : after ≡ with_seat client (Some new) before

-- the same, whatever is there
abbrev pub ScansAt : Option (Option Scan) → List (Option Version) → ℕ → List (Option Scan) → Result ℕ CoreFault → List (Option Scan) → Type 0
ScansAt None slots client before result after = (result ≡ Err NoSuchClient) × (after ≡ before)
ScansAt (Some None) slots client before result after = (result ≡ Err NoQuery) × (after ≡ before)
ScansAt (Some (Some scan)) slots client before result after = ScansOne scan slots client before result after

-- an answer of the query at a client's place
abbrev pub AnswersAt : Option (Option Scan) → Result (Vec Ranked) CoreFault → Type 0
AnswersAt None result = result ≡ Err NoSuchClient
AnswersAt (Some None) result = result ≡ Err NoQuery
AnswersAt (Some (Some scan)) result = Answers scan result

-- the outcome of a change, by whether it begins a row, the first id that it names and the table lacks, and how many versions are needed after it
abbrev pub outcome_of : (capacity : ℕ) (begins : Bool) (lost : Option ℕ) (needed : ℕ) (made : Outcome) → Outcome
outcome_of capacity begins lost needed made = elim lost [
  | Some id ↦ NoSuchRow id
  | None ↦ if begins && nat_lt capacity needed then Full needed else made
]

-- a numbered call, by how many its client has made
abbrev pub numbered : Member → System → Step → Step
numbered member system right = if nat_lt member.calls (2 ^ 56) then right else refused Spent system

-- what comes of a client's act
abbrev pub step_of : Limits → System → ℕ → Member → Act → Option Open → Step
step_of limits system client member act query = if is_read act || nat_lt member.calls (2 ^ 56) then acted limits system client member act query else refused Spent system

-- the numbered call that an act is, if it is one
abbrev pub call_of_act : Act → Option Call
call_of_act (Insert row) = Some (CallInsert row)
call_of_act (Update id row) = Some (CallUpdate id row)
call_of_act (Delete id) = Some (CallDelete id)
call_of_act (Commit changes) = Some (CallCommit changes)
call_of_act (Begin ask) = Some CallBegin
call_of_act Finish = Some CallFinish
call_of_act Abandon = Some CallAbandon
call_of_act act = None

-- the call of an act that changes rows, and its reply where it is made, by the next id
abbrev pub change_of_act : ℕ → Act → Option (Call × Reply)
change_of_act next_id (Insert row) = Some (CallInsert row, Inserted next_id)
change_of_act next_id (Update id row) = Some (CallUpdate id row, Updated id)
change_of_act next_id (Delete id) = Some (CallDelete id, Deleted id)
change_of_act next_id (Commit changes) = Some (CallCommit changes, Committed (committed_of next_id changes))
change_of_act next_id act = None

-- a call on a query, done, which leaves its client this one
abbrev pub called : Running → ℕ → Op → Option Scan → Running
called before client op scan = record { contents = applied before.contents op; limits = before.limits; scans = with_seat client scan before.scans }

-- the op is planned of a call on a query, which leaves its client this one
pub data Queries (before : Running) (client : ℕ) (op : Op) : Option Scan → Type 0 where
  begins : (ask : Question) → AreAllowed before.limits → IsPlan before.contents client CallBegin op → Queries before client op (Some (begin ask before.contents.stamp before.limits))
  finishes : IsPlan before.contents client CallFinish op → Queries before client op None
  abandons : IsPlan before.contents client CallAbandon op → Queries before client op None

-- what a change returns by its outcome, where this is its reply if it succeeds
abbrev pub reply_for : Outcome → Reply → Result Reply CoreFault
reply_for outcome done = elim (refusal_by_outcome outcome) [ None ↦ Ok done | Some fault ↦ Err fault ]

-- the reply to an act by what it returns: a refusal is one, and out of memory is none
abbrev pub reply_of : Result Reply CoreFault → Result Reply AllocError
reply_of (Ok reply) = Ok reply
reply_of (Err OutOfMemory) = Err alloc_error
reply_of (Err fault) = Ok (Refused fault)

-- whether a query begins
abbrev pub is_begin : Act → Bool
is_begin (Begin ask) = true
is_begin act = false

-- a reply, added
pub record AddedReply (before : List Reply) (returned : Result Reply AllocError) (after : List Reply) : Type 0 where
  pub reply : Reply
  pub is : returned ≡ Ok reply
  pub added : after ≡ before ++ reply ∷ []

-- a reply, added, or none where memory ran out
abbrev pub AddsReply : List Reply → Result Reply AllocError → Result (Unit {0}) AllocError → List Reply → Type 0
AddsReply before returned result after = MatchResult result (λ _. AddedReply before returned after) (λ _. after ≡ before)
