-- Each part of a machine does its act.
use Rattle.pref_core.proofs.Common.{◌≡◌, ℕ, ◌&&◌, true, false, List, Option, Some, None, Result, IfErr, ap, refl, ◌∙◌, Call, Abandoned, Ok, length, option_map, Snapshot, Open, snapshot, state_of, begun_after, Queries, begins_query, finishes, abandons, call_of_act, called, Contents, with_seat, arith}
use Rattle.std.specs.Result.{result_and}
use Rattle.pref_core.proofs.Common.{Begin, Finish, Abandon, Op, CoreFault, Act, ActScan, Event, Reply, Left, is_change, succeeds, seat, IsIndexOf, applied, IsPlan, Scan, Running}
use Rattle.pref_core.proofs.Common.{StandsForQuery, Does, as_reply, without_event, Steps, IsInOrder, NextIsNewAt, ScansAt, is_begin}
use Rattle.pref_core.specs.declared.event.StepFault.{StepFault}
use Rattle.pref_core.specs.Step.{query_of}
use Rattle.pref_core.proofs.IndexLaws.{indexed_still}
use Rattle.pref_core.proofs.SystemsLaws.{IsPlanned-from, changed_stands, queried_stands, follows_begun}
use Rattle.pref_core.proofs.ChangeReplies.{own_plan, running_of}
use Rattle.pref_core.proofs.ScanReplies.{next_is_new_at, scan_returns}

-- What is left stands for a system again.
pub in_order_after : (before after : Running) (old index : List (ℕ × ℕ)) (client : ℕ) (act : Act) (result : Result Reply CoreFault) → IsInOrder before old → Does before client act result after → IsIndexOf after.contents index → IsInOrder after index
in_order_after before after old index client act result h does is = grind (arith, does.returns h.system h.stands)

-- the same after a planned change
pub in_order_changed : (old : Running) (index new : List (ℕ × ℕ)) (client : ℕ) (call : Call) (op : Op) → is_change call ≡ true → IsPlan old.contents client call op → IsInOrder old index → IsIndexOf (applied old.contents op) new
    → IsInOrder (running_of (applied old.contents op) old.limits old.scans) new
in_order_changed old index new client call op c plan h is = record { system = _; stands = changed_stands old h.system client call op Abandoned c (IsPlanned-from old h.system client call op h.stands plan); indexed = is }

-- .. and after a planned call on a query
in_order_queried : (old : Running) (index : List (ℕ × ℕ)) (h : IsInOrder old index) (client : ℕ) (call : Call) (op : Op) (scan : Option Scan) (query : Option Open) → is_change call ≡ false → IsPlan old.contents client call op
    → ((found : Option Snapshot) → option_map snapshot query ≡ begun_after (state_of h.system) call found) → (length (applied old.contents op).slots ≡ old.limits.capacity → StandsForQuery (applied old.contents op).slots scan query) → IsInOrder (called old client op scan) index
in_order_queried old index h client call op scan query still plan kept mine =
    let planned = IsPlanned-from old h.system client call op h.stands plan in
    record {
      system = _;
      stands = queried_stands old h.system client call op scan query still planned (kept (option_map snapshot planned.let_in.who.query)) (mine planned.long);
      indexed = indexed_still old.contents op index plan.next plan.fits (ap (λ k. is_change k && succeeds op.outcome) plan.what ∙ ap (λ b. b && succeeds op.outcome) still) h.indexed;
    }

pub in_order_called : (old : Running) (index : List (ℕ × ℕ)) (client : ℕ) (op : Op) (scan : Option Scan) → IsInOrder old index → Queries old client op scan → IsInOrder (called old client op scan) index
in_order_called old index client op _ h (begins_query ask allowed plan) = in_order_queried old index h client Begin op _ (Some (query_of ask old.limits h.system)) refl plan (λ found. refl)
    (λ long. follows_begun old.limits (applied old.contents op).slots ask h.system old.contents.stamp allowed long h.stands.store.stamp)
in_order_called old index client op _ h (finishes plan) = in_order_queried old index h client Finish op None None refl plan (λ found. refl) (λ long. tt)
in_order_called old index client op _ h (abandons plan) = in_order_queried old index h client Abandon op None None refl plan (λ found. refl) (λ long. tt)

-- its op's plan, and what runs then
pub queried_plan : (inside old : Running) (client : ℕ) (op : Op) (scan : Option Scan) → inside ≡ old → Queries old client op scan → IsPlan inside.contents op.client op.call op
queried_plan inside old client op _ same (begins_query ask allowed plan) = own_plan inside old client Begin op same plan
queried_plan inside old client op _ same (finishes plan) = own_plan inside old client Finish op same plan
queried_plan inside old client op _ same (abandons plan) = own_plan inside old client Abandon op same plan

pub performed : (old : Running) (new : Contents) (scans : List (Option Scan)) (client : ℕ) (op : Op) (query : Option Scan) → new ≡ applied old.contents op → scans ≡ with_seat client query old.scans → running_of new old.limits scans ≡ called old client op query
performed old new scans client op query is placed = λ i. running_of (is i) old.limits (placed i)

pub next_is_new_in_order : (running : Running) (index : List (ℕ × ℕ)) (client : ℕ) → IsInOrder running index → NextIsNewAt (seat client running.scans) running.contents.slots
next_is_new_in_order running index client h = next_is_new_at running h.system client h.stands

-- a step is what its part does, and hands the event back
pub steps_does : (before after : Running) (event : Event) (act : Act) (returned : Result Reply CoreFault) (result : Result Reply StepFault) → event.act ≡ act → Does before event.client act returned after → without_event result ≡ returned → IfErr result (λ (fault : StepFault). fault.event ≡ event)
    → Steps before event result after
steps_does before after event act returned result is does alike back = grind (arith)

-- What a call returns with a value, where its change is made.
pub valued : {A : Type 0} (before : Running) (client : ℕ) (act : Act) (kind : A → Reply) (value : A) (made : Result (Unit {0}) CoreFault) (result : Result A CoreFault) (after : Running) → result ≡ result_and made (Ok value)
    → Does before client act (as_reply (λ _. kind value) made) after → Does before client act (as_reply kind result) after
valued before client act kind value made result after is does = grind (arith)

-- A scan.
pub scan_does : (old : Running) (client : ℕ) (result : Result ℕ CoreFault) (scans placed : List (Option Scan)) → placed ≡ scans → ScansAt (seat client old.scans) old.contents.slots client old.scans result scans
    → Does old client ActScan (as_reply Left result) (running_of old.contents old.limits placed)
scan_does old client result scans placed is says = grind (arith, scan_returns)

pub begins_call : (act : Act) → is_begin act ≡ true → call_of_act act ≡ Some Begin
begins_call act h = grind (arith)
