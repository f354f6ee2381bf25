-- On slots that stand for a state, refusals and outcomes are the state's, and a legal op leaves slots that stand for the next one.
use Rattle.pref_core.proofs.Common.{◌≡◌, ℕ, suc, true, not, List, [], ◌∷◌, length, Option, Some, None, slice_get, refl, ap, AllZip, find, Version, Caller, Call, State, Client, seat, calls_of, refusal, missing}
use Rattle.pref_core.proofs.Common.{ended, outcome, committed, is_formed, Contents, StandsFor, StandsForClient, visible, caller_calls, refusal_at, outcome_at, grown, arith, Bool, false, slice_set, sym, ◌∙◌, and_parts, Outcome}
use Rattle.pref_core.proofs.Common.{Op, is_change, begun, begins_row, needed_after, success_outcome, succeeds, counted, after, outcome_of, stamps, filled, callers_after, is_next, same_number, slots_after, stepped}
use Rattle.pref_core.proofs.CommitLaws.{has_visible, grown_stands}
use Rattle.pref_core.proofs.NeededCounts.{length-needed}
use Rattle.pref_core.proofs.StandsForLaws.{filled_stands}

-- the caller and the client of one number: both or none
abbrev pub SameSeat : List (Option Version) → ℕ → Option Caller → Option Client → Type 0
SameSeat slots now None None = Unit {0}
SameSeat slots now (Some caller) (Some client) = StandsForClient slots now caller client
SameSeat slots now caller client = ⊥

same_get : (slots : List (Option Version)) (now : ℕ) (callers : List Caller) (clients : List Client) (k : ℕ) → AllZip (StandsForClient slots now) callers clients → SameSeat slots now (slice_get callers k) (slice_get clients k)
same_get slots now (caller ∷ callers) (client ∷ clients) (suc k) h = same_get slots now callers clients k h.1
same_get slots now callers clients k h = grind (arith)

pub same_seat : (slots : List (Option Version)) (now : ℕ) (callers : List Caller) (clients : List Client) (client : ℕ) → AllZip (StandsForClient slots now) callers clients → SameSeat slots now (seat client callers) (seat client clients)
same_seat slots now callers clients client h = grind (arith, same_get)

pub same_calls : (contents : Contents) (state : State) (client : ℕ) → StandsFor contents state → caller_calls contents client ≡ calls_of state client
same_calls contents state client h = grind (arith, same_seat contents.slots contents.stamp contents.callers state.clients client h.clients)

pub same_refusal : (contents : Contents) (state : State) (client : ℕ) (call : Call) → StandsFor contents state → refusal_at contents client call ≡ refusal state client call
same_refusal contents state client call h = grind (arith, same_seat contents.slots contents.stamp contents.callers state.clients client h.clients)

same_missing : (contents : Contents) (state : State) (ids : List ℕ) → StandsFor contents state → missing ids (visible contents.stamp contents.slots) ≡ missing ids state.table
same_missing contents state ids h = λ i. find (λ id. not (has_visible contents.slots contents.stamp state.table h.table id i)) ids

pub same_outcome_at : (contents : Contents) (state : State) (call : Call) → is_formed call ≡ true → StandsFor contents state → outcome_at contents call ≡ outcome (length contents.slots) state call
same_outcome_at contents state call formed h = grind (arith, same_missing contents state (ended call) h, length-needed (grown call contents) (committed call state), grown_stands contents state call)

AllZip-set : {A B : Type 0} (R : A → B → Type 0) (xs : List A) (ys : List B) (k : ℕ) (a : A) (b : B) → R a b → AllZip R xs ys → AllZip R (slice_set xs k a) (slice_set ys k b)
AllZip-set R (x ∷ xs) (y ∷ ys) (suc k) a b r h = (h.0, AllZip-set R xs ys k a b r h.1)
AllZip-set R xs ys k a b r h = grind (arith)

counted_stands : (contents : Contents) (state : State) (client : ℕ) (call : Call) → StandsFor contents state → StandsFor
    (record { slots = contents.slots; stamp = contents.stamp; next_id = contents.next_id; callers = callers_after contents.stamp contents.callers client call })
    (record { table = state.table; next_id = state.next_id; commits = state.commits; clients = counted state client call })
counted_stands contents state client call h = grind (arith, AllZip-set, same_seat contents.slots contents.stamp contents.callers state.clients client h.clients)

-- a change that succeeds misses no row
pub succeeds-missing : (capacity : ℕ) (begins : Bool) (m : Option ℕ) (size : ℕ) (success_outcome : Outcome) → succeeds (outcome_of capacity begins m size success_outcome) ≡ true → m ≡ None
succeeds-missing capacity begins m size success_outcome h = grind (arith)

-- a change counts a call and leaves the open query
callers_after-change : (now later : ℕ) (callers : List Caller) (client : ℕ) (call : Call) → is_change call ≡ true → callers_after later callers client call ≡ callers_after now callers client call
callers_after-change now later callers client call c = grind (arith)

counted-change : (state : State) (client : ℕ) (call : Call) → is_change call ≡ true → counted (committed call state) client call ≡ counted state client call
counted-change state client call c = grind (arith)

-- what is legal of an op, by parts
pub record IsAllowed (contents : Contents) (op : Op) : Type 0 where
  pub accepted : refusal_at contents op.client op.call ≡ None
  pub number : same_number (caller_calls contents op.client) op.number ≡ true
  pub outcome : op.outcome ≡ outcome_at contents op.call
  pub formed : is_formed op.call ≡ true

pub IsAllowed-from : (contents : Contents) (op : Op) → is_next contents op ≡ true → IsAllowed contents op
IsAllowed-from contents op h = grind (arith, and_parts)

pub stepped_stands : (contents : Contents) (state : State) (op : Op) (slots : List (Option Version)) → StandsFor contents state → is_next contents op ≡ true → slots_after contents op ≡ Some slots
    → StandsFor (stepped contents op slots) (after (length contents.slots) state op.client op.call)
stepped_stands contents state op slots h next fits = go (is_change op.call) refl (succeeds op.outcome) refl
  where
    same : op.outcome ≡ outcome (length contents.slots) state op.call
    same = (IsAllowed-from contents op next).outcome ∙ same_outcome_at contents state op.call (IsAllowed-from contents op next).formed h

    quiet : filled (stamps contents) contents.stamp op.slots [] contents.slots ≡ Some slots
        → StandsFor (record { slots = slots; stamp = contents.stamp; next_id = contents.next_id; callers = callers_after contents.stamp contents.callers op.client op.call })
        (record { table = state.table; next_id = state.next_id; commits = state.commits; clients = counted state op.client op.call })
    quiet e = counted_stands (record { slots = slots; stamp = contents.stamp; next_id = contents.next_id; callers = contents.callers }) state op.client op.call
        (filled_stands contents state contents.stamp op.slots [] contents.slots slots e h)

    go : (c : Bool) → is_change op.call ≡ c → (s : Bool) → succeeds op.outcome ≡ s → StandsFor (stepped contents op slots) (after (length contents.slots) state op.client op.call)
    go false c s o = rw c (quiet (rw c at fits))
    go true c false o =
        let refused = rw c at (ap succeeds (sym same) ∙ o) in
        rw (c, o, refused) (quiet (rw (c, o) at fits))
    go true c true o =
        let granted_too = rw c at (ap succeeds (sym same) ∙ o) in
        let none = succeeds-missing (length contents.slots) (begins_row op.call) (missing (ended op.call) state.table) (needed_after state op.call) (success_outcome state.next_id op.call) granted_too in
        let grows = grown_stands contents state op.call c (IsAllowed-from contents op next).formed none h in
        let placed = filled_stands (grown op.call contents) (committed op.call state) (suc contents.stamp) op.slots (begun contents.next_id op.call) _ slots (rw (c, o) at fits) grows in
        let counts = counted_stands _ _ op.client op.call placed in
        rw (c, o, granted_too) (rw (callers_after-change contents.stamp (suc contents.stamp) contents.callers op.client op.call c, counted-change state op.client op.call c) at counts)
