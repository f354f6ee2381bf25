-- What runs, the system that it represents, and a step of it. (this project)
use Rattle.std.specs.Prelude.{◌≡◌, ℕ, nat_lt, List, length, Bool, true, false, Option, Some, None, Result, Ok, Err, MatchResult, ◌⊎◌}
use Rattle.std.specs.declared.alloc.AllocError.{AllocError}
use Rattle.pref_core.specs.declared.store.version.Version.{Version}
use Rattle.pref_core.specs.declared.fault.CoreFault.{CoreFault}
use Rattle.pref_core.specs.declared.fault.CoreFault.TheVariants.{OutOfMemory}
use Rattle.pref_core.specs.declared.event.Act.{Act}
use Rattle.pref_core.specs.declared.event.Act.TheVariants.{Insert as ActInsert, Commit as ActCommit, Scan as ActScan, Finish as ActFinish}
use Rattle.pref_core.specs.declared.event.Event.{Event}
use Rattle.pref_core.specs.declared.event.Reply.{Reply}
use Rattle.pref_core.specs.declared.event.Reply.TheVariants.{Refused}
use Rattle.pref_core.specs.declared.event.StepFault.{StepFault}
use Rattle.pref_core.specs.Changes.{added_by}
use Rattle.pref_core.specs.Limits.{Limits}
use Rattle.pref_core.specs.State.{seat}
use Rattle.pref_core.specs.Step.{Open, Member, System, Step, state_of, step}
use Rattle.pref_core.specs.Slots.{Contents, StandsFor}
use Rattle.pref_core.specs.Scans.{Scan}
use Rattle.pref_core.specs.Queries.{IsOnItsWay}

-- a store, its limits, and for each client its open query
pub record Running : Type 0 where
  pub contents : Contents
  pub limits : Limits
  pub scans : List (Option Scan)

-- A query that represents the client's open one.
pub record Follows (slots : List (Option Version)) (scan : Scan) (query : Open) : Type 0 where
  pub ask : scan.ask ≡ query.ask
  pub stamp : scan.stamp ≡ query.commits
  pub left : scan.left ≡ query.left
  pub way : IsOnItsWay slots scan

-- a query and the client's open one: both or none
abbrev pub StandsForQuery : List (Option Version) → Option Scan → Option Open → Type 0
StandsForQuery slots None None = Unit {0}
StandsForQuery slots (Some scan) (Some query) = Follows slots scan query
StandsForQuery slots None (Some query) = ⊥
StandsForQuery slots (Some scan) None = ⊥

-- a client's place and the client: both or none
abbrev pub StandsForMember : List (Option Version) → Option (Option Scan) → Option Member → Type 0
StandsForMember slots None None = Unit {0}
StandsForMember slots (Some scan) (Some member) = StandsForQuery slots scan member.query
StandsForMember slots None (Some member) = ⊥
StandsForMember slots (Some scan) None = ⊥

-- What runs represents a system: its slots the state, and its queries the clients' open ones.
pub record StandsForSystem (running : Running) (system : System) : Type 0 where
  pub store : StandsFor running.contents (state_of system)
  pub capacity : length running.contents.slots ≡ running.limits.capacity
  pub members : (client : ℕ) → StandsForMember running.contents.slots (seat client running.scans) (seat client system.members)

-- whether an act may run out of memory
abbrev pub may_want_memory : Act → Bool
may_want_memory (ActInsert row) = true
may_want_memory (ActCommit changes) = nat_lt 0 (added_by changes)
may_want_memory ActScan = true
may_want_memory ActFinish = true
may_want_memory act = false

-- whether a reply is a refusal
abbrev pub is_refusal : Reply → Bool
is_refusal (Refused fault) = true
is_refusal reply = false

-- What is returned is the system's reply, and what runs represents the next system; or it is out of memory where that reply is no refusal, and nothing has changed.
abbrev pub Returns : Running → Step → Act → Result Reply CoreFault → Running → Type 0
Returns before right act result after = MatchResult result
    (λ returned. (returned ≡ right.reply) × (is_refusal returned ≡ false) × StandsForSystem after right.next)
    (λ fault. ((Refused fault ≡ right.reply) × StandsForSystem after right.next)
    ⊎ ((fault ≡ OutOfMemory) × (may_want_memory act ≡ true) × (is_refusal right.reply ≡ false) × (after ≡ before)))

-- the reply to an act by what its call returns: a value stands for a reply of this kind
abbrev pub as_reply : {A : Type 0} → (A → Reply) → Result A CoreFault → Result Reply CoreFault
as_reply kind (Ok value) = Ok (kind value)
as_reply kind (Err fault) = Err fault

-- A client's act, done: what is returned is the system's reply, in each system that what runs represents.
pub record Does (before : Running) (client : ℕ) (act : Act) (result : Result Reply CoreFault) (after : Running) : Type 0 where
  pub limits : after.limits ≡ before.limits
  pub returns : (system : System) → StandsForSystem before system → Returns before (step before.limits system (record { client = client; act = act })) act result after

-- the fault alone
abbrev pub without_event : Result Reply StepFault → Result Reply CoreFault
without_event result = elim result [ Ok returned ↦ Ok returned | Err fault ↦ Err fault.fault ]

-- A step is the system's, in each system that what runs represents, and a refusal hands the event back.
pub record Steps (before : Running) (event : Event) (result : Result Reply StepFault) (after : Running) : Type 0 where
  pub limits : after.limits ≡ before.limits
  pub returns : (system : System) → StandsForSystem before system → Returns before (step before.limits system event) event.act (without_event result) after
  pub handed_back : MatchResult result (λ returned. Unit {0}) (λ fault. fault.event ≡ event)

-- A reply is the system's, in each system that what runs represents, refusals too; or it is out of memory where that reply is no refusal, and nothing has changed.
pub record Replies (before : Running) (event : Event) (result : Result Reply AllocError) (after : Running) : Type 0 where
  pub limits : after.limits ≡ before.limits
  pub returns : (system : System) → StandsForSystem before system → MatchResult result
      (λ reply. (reply ≡ (step before.limits system event).reply) × StandsForSystem after (step before.limits system event).next)
      (λ _. (may_want_memory event.act ≡ true) × (is_refusal (step before.limits system event).reply ≡ false) × (after ≡ before))
