-- What an operation does to a store, and when it is legal there. (this project)
use Rattle.std.specs.Prelude.{◌≡◌, ℕ, suc, ◌+◌, List, [], ◌∷◌, ◌++◌, map, length, Bool, true, false, not, ◌&&◌, ◌==◌, Option, Some, None, is_some, Result, MatchResult, nat_lt, if◌then◌else◌, slice_get, slice_set}
use Rattle.std.specs.List.{count_by}
use Rattle.pref_core.specs.declared.store.version.Version.{Version}
use Rattle.pref_core.specs.declared.store.caller.Caller.{Caller}
use Rattle.pref_core.specs.declared.call.Call.{Call}
use Rattle.pref_core.specs.declared.call.Call.TheVariants.{Begin, Finish, Abandon}
use Rattle.pref_core.specs.declared.call.Outcome.{Outcome}
use Rattle.pref_core.specs.declared.call.Outcome.TheVariants.{Added, Done, NoSuchRow, Full}
use Rattle.pref_core.specs.declared.fault.CoreFault.{CoreFault}
use Rattle.pref_core.specs.declared.call.Op.{Op}
use Rattle.pref_sky.specs.declared.entry.Entry.{Entry}
use Rattle.pref_core.specs.Table.{among}
use Rattle.pref_core.specs.State.{State, seat, with_seat, refusal_of, refusal, calls_of, ended, begun, begins_row, added, is_change, missing, success_outcome, outcome, succeeds, after, is_formed}
use Rattle.pref_core.specs.Slots.{Contents, StandsFor, visible, is_needed, stamps, new_version, caller_calls, caller_begun}

-- how many slots can't be used again
abbrev pub used : Contents → ℕ
used contents = count_by (is_needed (stamps contents)) contents.slots

-- the stamp at which a version ends: a chosen one ends now, if it hasn't ended before
abbrev pub close_at : ℕ → Bool → Option ℕ → Option ℕ
close_at stamp chosen (Some death) = Some death
close_at stamp true None = Some stamp
close_at stamp false None = None

-- a slot after a commit with this stamp that ends these ids
abbrev pub close : List ℕ → ℕ → Option Version → Option Version
close ids stamp None = None
close ids stamp (Some version) = Some (record { id = version.id; row = version.row; birth = version.birth; death = close_at stamp (among ids version.id) version.death })

-- the store after a change, if there were always room: the new versions are put before the slots
abbrev pub grown : Call → Contents → Contents
grown call contents = record {
  slots = map (new_version (suc contents.stamp)) (begun contents.next_id call) ++ map (close (ended call) (suc contents.stamp)) contents.slots;
  stamp = suc contents.stamp;
  next_id = contents.next_id + added call;
  callers = contents.callers;
}

-- whether the slot is in the list and shows no line at any of the stamps
abbrev pub is_free : List ℕ → List (Option Version) → ℕ → Bool
is_free stamps slots place = elim (slice_get slots place) [ None ↦ false | Some slot ↦ not (is_needed stamps slot) ]

-- the slots with each new version at its place, where each place is free when its turn comes
abbrev pub filled : List ℕ → ℕ → List ℕ → List Entry → List (Option Version) → Option (List (Option Version))
filled stamps made [] [] slots = Some slots
filled stamps made (place ∷ places) (fresh ∷ rest) slots =
    if is_free stamps slots place then filled stamps made places rest (slice_set slots place (new_version made fresh)) else None
filled stamps made [] (fresh ∷ rest) slots = None
filled stamps made (place ∷ places) [] slots = None

-- why a call gets no number
abbrev pub refusal_at : Contents → ℕ → Call → Option CoreFault
refusal_at contents client call = refusal_of (caller_calls contents client) (is_some (caller_begun contents client)) call

-- the outcome of a call that gets one, as `outcome` has it, from the slots
abbrev pub outcome_at : Contents → Call → Outcome
outcome_at contents call = if is_change call
    then elim (missing (ended call) (visible contents.stamp contents.slots)) [
      | Some id ↦ NoSuchRow id
      | None ↦ if begins_row call && nat_lt (length contents.slots) (used (grown call contents)) then Full (used (grown call contents)) else success_outcome contents.next_id call
    ]
    else Done

-- whether two outcomes are one
abbrev pub same_outcome : Outcome → Outcome → Bool
same_outcome (Added a) (Added b) = a == b
same_outcome Done Done = true
same_outcome (NoSuchRow a) (NoSuchRow b) = a == b
same_outcome (Full a) (Full b) = a == b
same_outcome a b = false

-- whether a number is one above a client's calls
abbrev pub same_number : Option ℕ → ℕ → Bool
same_number None number = false
same_number (Some calls) number = suc calls == number

-- whether the call, its number and its outcome are legal next, and the call's changes a commit
abbrev pub is_next : Contents → Op → Bool
is_next contents op = not (is_some (refusal_at contents op.client op.call)) && same_number (caller_calls contents op.client) op.number && same_outcome op.outcome (outcome_at contents op.call) && is_formed op.call

-- the slots after a call with this outcome, its new rows in these slots; none where a slot doesn't fit
abbrev pub placed : Contents → Call → List ℕ → Outcome → Option (List (Option Version))
placed contents call places outcome = if is_change call && succeeds outcome
    then filled (stamps (grown call contents)) (suc contents.stamp) places (begun contents.next_id call) (map (close (ended call) (suc contents.stamp)) contents.slots)
    else filled (stamps contents) contents.stamp places [] contents.slots

-- the slots after an operation
abbrev pub slots_after : Contents → Op → Option (List (Option Version))
slots_after contents op = placed contents op.call op.slots op.outcome

-- the stamp at the open query's begin, after a call
abbrev pub begin_after : ℕ → Call → Option ℕ → Option ℕ
begin_after stamp Begin found = Some stamp
begin_after stamp Finish found = None
begin_after stamp Abandon found = None
begin_after stamp call found = found

-- the client has made one call more
abbrev pub callers_after : ℕ → List Caller → ℕ → Call → List Caller
callers_after stamp callers client call = elim (seat client callers) [
  | None ↦ callers
  | Some found ↦ with_seat client (record { calls = suc found.calls; at_begin = begin_after stamp call found.at_begin }) callers
]

-- the store after a legal operation that leaves these slots
abbrev pub stepped : Contents → Op → List (Option Version) → Contents
stepped contents op slots = if is_change op.call && succeeds op.outcome
    then record { slots = slots; stamp = suc contents.stamp; next_id = contents.next_id + added op.call; callers = callers_after contents.stamp contents.callers op.client op.call }
    else record { slots = slots; stamp = contents.stamp; next_id = contents.next_id; callers = callers_after contents.stamp contents.callers op.client op.call }

-- an operation changes the store where it is legal there, and else nothing
abbrev pub applied : Contents → Op → Contents
applied contents op = if is_next contents op
    then elim (slots_after contents op) [ None ↦ contents | Some slots ↦ stepped contents op slots ]
    else contents

-- a numbered call is legal next in a state
pub record IsNext (capacity : ℕ) (state : State) (op : Op) : Type 0 where
  pub accepted : refusal state op.client op.call ≡ None
  pub number : same_number (calls_of state op.client) op.number ≡ true
  pub outcome : op.outcome ≡ outcome capacity state op.call
  pub formed : is_formed op.call ≡ true

-- the store after a list of operations
abbrev pub ran : Contents → List Op → Contents
ran contents [] = contents
ran contents (op ∷ ops) = ran (applied contents op) ops

-- an operation is legal at slots that represent a state: its call is legal next, and it has a free slot for each row that it begins
pub record IsLegal (state : State) (contents : Contents) (op : Op) : Type 0 where
  pub next : IsNext (length contents.slots) state op
  pub fits : is_some (slots_after contents op) ≡ true

-- what a plan of a call is: an op that is legal next, in slots that fit, or the refusal that leaves the call without a number
pub record IsPlan (contents : Contents) (client : ℕ) (call : Call) (op : Op) : Type 0 where
  pub by : op.client ≡ client
  pub what : op.call ≡ call
  pub next : is_next contents op ≡ true
  pub fits : is_some (slots_after contents op) ≡ true

-- what planning returns
abbrev pub Plans : Contents → ℕ → Call → Result Op CoreFault → Type 0
Plans contents client call result = MatchResult result (λ op. IsPlan contents client call op) (λ fault. refusal_at contents client call ≡ Some fault)

-- On slots that represent a state, a plan is legal next in it or its refusal, ..
abbrev pub PlansIn : State → Contents → ℕ → Call → Result Op CoreFault → Type 0
PlansIn state contents client call result = MatchResult result
    (λ op. (op.client ≡ client) × (op.call ≡ call) × IsLegal state contents op)
    (λ fault. refusal state client call ≡ Some fault)

-- .. a legal op leaves slots that represent the next state, and any other changes nothing.
abbrev pub AppliesIn : State → Contents → Op → Contents → Type 0
AppliesIn state before op after_it =
    (IsLegal state before op → StandsFor after_it (after (length before.slots) state op.client op.call))
    × (¬ IsLegal state before op → after_it ≡ before)
