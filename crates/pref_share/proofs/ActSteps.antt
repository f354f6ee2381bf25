-- What each act of a client is in the sequential table.
use Rattle.pref_share.proofs.Common.{◌≡◌, ℕ, suc, ◌-◌, ◌^◌, ◌<◌, Bool, true, false, cond, nat_lt, List, length, Option, Some, None, is_some, refl, sym, ap, ◌∙◌, subst, arith, inl}
use Rattle.pref_share.proofs.Common.{option_map, Call, CallInsert, CallUpdate, CallDelete, CallCommit, CallBegin, CallFinish, CallAbandon, Added, Done, Full, Act, Insert, Update, Delete, Commit}
use Rattle.pref_share.proofs.Common.{Begin, ScanAct, Finish, Abandon, Get, Room, Reply, CoreFault, NoQuery, AllScanned, NotDone, MissingRow, State, seat}
use Rattle.pref_share.proofs.Common.{is_change, begins_row, committed, ended, success_outcome, missing, needed, outcome, after, begun_after, refusal_of, Open, Member, System, Step, snapshot}
use Rattle.pref_share.proofs.Common.{state_of, refused, counted_with, one_less, scanned_with, committed_of, changed, change, seat-with_seat_same, client_there, state_of-counted}
use Rattle.pref_share.proofs.Common.{after_quiet, state_of-changed, members-changed, Opening, IsLegalFrom, state_at, Asking, Standing, own_refusal, Joins, Changes, Commits, Sees, Begins, Finishes}
use Rattle.pref_share.proofs.Common.{HasLeft, Scanned, row_after, room_at, open_of, member_of, call_of, step_by, IsStep, StepsTo}
use Rattle.pref_term.specs.Question.{Question}
use Rattle.pref_sky.specs.declared.entry.Ranked.{Ranked}
use Rattle.pref_sky.specs.Answers.{answer_of}
use Rattle.pref_core.specs.Rows.{Row}
use Rattle.pref_core.specs.declared.changes.Change.{Change}
use Rattle.pref_core.specs.declared.call.Outcome.{Outcome}
use Rattle.pref_core.specs.declared.event.Committed.{Committed}
use Rattle.pref_core.specs.declared.event.Reply.TheVariants.{Inserted, Updated, Deleted, Committed as CommittedIs, Begun, Left, Answer, Abandoned, Found, Room as RoomIs, Refused as RefusedReply}
use Rattle.pref_core.specs.Limits.{Limits, blocks}
use Rattle.pref_core.specs.Table.{Line, entries}
use Rattle.pref_core.specs.Changes.{added_by}
use Rattle.pref_core.specs.MachineParts.{outcome_of, numbered, step_of}
use Rattle.std.proofs.lemmas.Bool.Decides.{nat_tests}
use Rattle.pref_core.proofs.BoundsLaws.{few_calls}
use Rattle.pref_core.proofs.SeatLaws.{with_seat_self, with_seat-map}
use Rattle.pref_core.proofs.ChangeReplies.{somebody_steps, let_in_steps}
use Rattle.pref_core.proofs.ScanReplies.{some_left, no_left}
use Rattle.pref_share.proofs.HistoryLaws.{state_at-append}
use Rattle.pref_share.proofs.PrefixLaws.{prefix_self}

-- the step of this client in a system
abbrev stepped : Opening → Standing → Act → System → Step
stepped o s act system = step_of o.limits system s.number (member_of o s) act (member_of o s).query

-- An act that joins nothing and leaves the system as it is.
pub stays : (o : Opening) (s t : Standing) (act : Act) (reply : Reply) → Sees o s t → ((system : System) → state_of system ≡ state_at o t.seen → stepped o s act system ≡ record { reply = reply; next = system }) → StepsTo o s act reply t
stays o s t act reply sees steps = record {
  at = t.seen;
  further = sees.further;
  legal = sees.legal;
  same = sees.same;
  joins = inl (record { seen = refl; counted = sees.counted });
  returned = λ system state there. grind (arith, somebody_steps, steps system state);
}

-- nothing was seen
pub sees_same : (o : Opening) (s t : Standing) → IsLegalFrom o s.seen → t ≡ s → Sees o s t
sees_same o s t legal same = subst (λ (x : Standing). Sees o s x) (sym same) (record { further = prefix_self s.seen; legal = legal; counted = refl; same = refl; query = refl })

-- the reply to a get, by the row of the id
abbrev pub row_reply : ℕ → Option Row → Reply
row_reply id None = RefusedReply (MissingRow id)
row_reply id (Some row) = Found id row

line_reply : (id : ℕ) (l : Option Line) → elim l as (λ x. Reply) [ None ↦ RefusedReply (MissingRow id) | Some line ↦ Found id line.row ] ≡ row_reply id (option_map (λ line. line.row) l)
line_reply id l = grind (arith)

pub got : (o : Opening) (s t : Standing) (id : ℕ) (row : Option Row) → Sees o s t → row_after o t.seen id ≡ row → StepsTo o s (Get id) (row_reply id row) t
got o s t id row sees is = grind (arith, stays, line_reply)

pub has_room : (o : Opening) (s t : Standing) (room : ℕ) → Sees o s t → room ≡ room_at o t.seen → StepsTo o s Room (RoomIs room) t
has_room o s t room sees is = grind (arith, stays)

own_refused : (limits : Limits) (system : System) (client : ℕ) (member : Member) (act : Act) (call : Call) (fault : CoreFault) (q : Option Open) → call_of act ≡ Some call → refusal_of (Some member.calls) (is_some q) call ≡ Some fault → step_of limits system client member act q ≡ refused fault system
own_refused limits system client member act call fault q c e = grind (arith)

open_too : (o : Opening) (q : Option Asking) → is_some (option_map (open_of o) q) ≡ is_some q
open_too o q = grind (arith)

pub refused_by_itself : (o : Opening) (s t : Standing) (act : Act) (call : Call) (fault : CoreFault) → Sees o s t → call_of act ≡ Some call → own_refusal s call ≡ Some fault → StepsTo o s act (RefusedReply fault) t
refused_by_itself o s t act call fault sees c e = grind (arith, stays, own_refused, open_too)

let_in : (calls : ℕ) (b : Bool) (call : Call) → refusal_of (Some calls) b call ≡ None → nat_lt calls (2 ^ 56) ≡ true
let_in calls b call e = let few : calls < 2 ^ 56 = few_calls calls b call e in grind (arith, nat_tests)

-- the state after a call that joined
joined_state : (o : Opening) (s t : Standing) (call : Call) (returned : Outcome) (j : Joins o s call returned t) → state_at o t.seen ≡ after o.limits.capacity (state_at o j.before) s.number call
joined_state o s t call returned j = grind (arith, state_at-append)

-- an act that is a call which joined
adds : (o : Opening) (s t : Standing) (act : Act) (call : Call) (returned : Outcome) (reply : Reply) (j : Joins o s call returned t) → call_of act ≡ Some call
    → ((system : System) → state_of system ≡ state_at o j.before → seat s.number system.members ≡ Some (member_of o s) → IsStep o s act reply t system) → StepsTo o s act reply t
adds o s t act call returned reply j c steps = grind (arith)

-- the reply to a change that is made
abbrev made : Act → System → Reply
made (Insert row) system = Inserted system.next_id
made (Update id row) system = Updated id
made (Delete id) system = Deleted id
made (Commit commit) system = CommittedIs (committed_of system.next_id commit)
made act system = Abandoned

change_steps : (limits : Limits) (system : System) (client : ℕ) (member : Member) (act : Act) (call : Call) (q : Option Open) → is_change call ≡ true → call_of act ≡ Some call → step_of limits system client member act q ≡ numbered member system (change limits system client member call (made act system))
change_steps limits system client member act call q change is = grind (arith)

-- a change
pub changes : (o : Opening) (s t : Standing) (act : Act) (call : Call) (returned : Outcome) (reply : Reply) (j : Changes o s call returned t) → is_change call ≡ true → call_of act ≡ Some call
    → ((system : System) (x : System) → state_of system ≡ state_at o j.0.before → (changed returned (made act system) call x).reply ≡ reply) → StepsTo o s act reply t
changes o s t act call returned reply j c act_is replies = adds o s t act call returned reply j.0 act_is
    (λ system state there.
    let who = member_of o s in
    let done = made act system in
    let after_it = counted_with who.query s.number who system in
    let is : step_by o s act system ≡ change o.limits system s.number who call done = somebody_steps o.limits system s.number act who there ∙ change_steps o.limits system s.number who act call who.query c act_is ∙ let_in_steps who system _ (let_in s.counter (is_some s.query) call j.0.accepted) in
    let outcome_is : outcome o.limits.capacity (state_of system) call ≡ returned = ap (λ x. outcome o.limits.capacity x call) state ∙ sym j.0.reply in
    record {
      reply_is = ap (λ (x : Step). x.reply) (is ∙ ap (λ w. changed w done call after_it) outcome_is) ∙ replies system after_it state;
      state = ap (λ (x : Step). state_of x.next) is ∙ state_of-changed o.limits.capacity system s.number who call done there c ∙ ap (λ x. after o.limits.capacity x s.number call) state ∙ sym (joined_state o s t call returned j.0);
      member = ap (λ (x : Step). seat s.number x.next.members) is ∙ ap (seat s.number) (members-changed (outcome o.limits.capacity (state_of system) call) done call after_it)
          ∙ seat-with_seat_same system.members s.number who (record { calls = suc who.calls; query = who.query }) there ∙ (λ i. Some (record { calls = sym j.0.counted i; query = option_map (open_of o) (sym j.1 i) }));
    })

-- a call that is no change
pub quiet : (o : Opening) (s t : Standing) (act : Act) (call : Call) (reply : Reply) (q : System → Option Open) (j : Joins o s call Done t) → is_change call ≡ false → call_of act ≡ Some call
    → ((system : System) → state_of system ≡ state_at o j.before → stepped o s act system ≡ numbered (member_of o s) system (record { reply = reply; next = counted_with (q system) s.number (member_of o s) system }))
    → ((system : System) → option_map snapshot (q system) ≡ begun_after (state_of system) call (option_map snapshot (member_of o s).query))
    → ((system : System) → state_of system ≡ state_at o j.before → q system ≡ option_map (open_of o) t.query) → StepsTo o s act reply t
quiet o s t act call reply q j c act_is steps found same = adds o s t act call Done reply j act_is
    (λ system state there.
    let who = member_of o s in
    let is : step_by o s act system ≡ record { reply = reply; next = counted_with (q system) s.number who system } = somebody_steps o.limits system s.number act who there ∙ steps system state ∙ let_in_steps who system _ (let_in s.counter (is_some s.query) call j.accepted) in
    record {
      reply_is = ap (λ (x : Step). x.reply) is;
      state = ap (λ (x : Step). state_of x.next) is ∙ state_of-counted system s.number who call (q system) there (found system) ∙ sym (after_quiet o.limits.capacity system s.number call c) ∙ ap (λ x. after o.limits.capacity x s.number call) state ∙ sym (joined_state o s t call Done j);
      member = ap (λ (x : Step). seat s.number x.next.members) is ∙ seat-with_seat_same system.members s.number who (record { calls = suc who.calls; query = q system }) there ∙ (λ i. Some (record { calls = sym j.counted i; query = same system state i }));
    })

added_next : (capacity next_id after_it id : ℕ) → cond (nat_lt capacity after_it) (Full after_it) (Added next_id) ≡ Added id → next_id ≡ id
added_next capacity next_id after_it id e = grind (arith)

-- the acts that change rows
pub inserted : (o : Opening) (s t : Standing) (row : Row) (id : ℕ) → Changes o s (CallInsert row) (Added id) t → StepsTo o s (Insert row) (Inserted id) t
inserted o s t row id j = changes o s t (Insert row) (CallInsert row) (Added id) (Inserted id) j refl refl
    (λ system x state. ap Inserted (ap (λ (y : State). y.next_id) state ∙ added_next o.limits.capacity (state_at o j.0.before).next_id _ id (sym j.0.reply)))

pub updated : (o : Opening) (s t : Standing) (id : ℕ) (row : Row) → Changes o s (CallUpdate id row) Done t → StepsTo o s (Update id row) (Updated id) t
updated o s t id row j = changes o s t (Update id row) (CallUpdate id row) Done (Updated id) j refl refl (λ system x state. refl)

pub deleted : (o : Opening) (s t : Standing) (id : ℕ) → Changes o s (CallDelete id) Done t → StepsTo o s (Delete id) (Deleted id) t
deleted o s t id j = changes o s t (Delete id) (CallDelete id) Done (Deleted id) j refl refl (λ system x state. refl)

-- the first id of a commit that is done, by the id of the next row at its place
same_first : (capacity : ℕ) (begins : Bool) (lost : Option ℕ) (size next_id id : ℕ) (adds_any : Bool)
    → cond adds_any (Added next_id) Done ≡ outcome_of capacity begins lost size (cond adds_any (Added id) Done) → cond adds_any id 0 ≡ cond adds_any next_id 0
same_first capacity begins lost size next_id id adds_any e = grind (arith)

granted_reply : (next_id : ℕ) (call : Call) (done : Reply) (x : System) (adds_any : Bool) → (changed (cond adds_any (Added next_id) Done) done call x).reply ≡ done
granted_reply next_id call done x adds_any = grind (arith)

pub commits : (o : Opening) (s t : Standing) (commit : List Change) (returned : Committed) → Commits o s commit returned t → StepsTo o s (Commit commit) (CommittedIs returned) t
commits o s t commit returned j =
    let call = CallCommit commit in
    let adds_any = nat_lt 0 (added_by commit) in
    let state = state_at o j.0.0.before in
    let first = same_first o.limits.capacity (begins_row call) (missing (ended call) state.table) (length (needed (committed call state))) returned.first state.next_id adds_any j.0.0.reply in
    changes o s t (Commit commit) call (success_outcome returned.first call) (CommittedIs returned) j.0 refl refl
    (λ system x here.
    granted_reply returned.first call (CommittedIs (committed_of system.next_id commit)) x adds_any
    ∙ ap (λ (y : State). CommittedIs (committed_of y.next_id commit)) here
    ∙ ap (λ (id : ℕ). CommittedIs (record { changes = length commit; first = id })) first
    ∙ ap CommittedIs (sym j.1))

-- .. and where they are refused with a number
pub refused_change : (o : Opening) (s t : Standing) (act : Act) (call : Call) (returned : Outcome) (fault : CoreFault) → Changes o s call returned t → is_change call ≡ true → call_of act ≡ Some call → ((done : Reply) (x : System) → (changed returned done call x).reply ≡ RefusedReply fault) → StepsTo o s act (RefusedReply fault) t
refused_change o s t act call returned fault j c a r = changes o s t act call returned (RefusedReply fault) j c a (λ system x state. r (made act system) x)

-- whose begin is let in has no query, and whose end is has one
idle : (calls : ℕ) (q : Option Asking) → refusal_of (Some calls) (is_some q) CallBegin ≡ None → q ≡ None
idle calls q e = grind (arith)

busy : (calls : ℕ) (q : Option Asking) → refusal_of (Some calls) (is_some q) CallAbandon ≡ None → (asking : Asking) × (q ≡ Some asking)
busy calls q e = grind (arith)

-- a query begins
pub begun : (o : Opening) (s t : Standing) (ask : Question) (left : ℕ) → Begins o s ask left t → StepsTo o s (Begin ask) (Begun left) t
begun o s t ask left b =
    let none : option_map (open_of o) s.query ≡ None = ap (option_map (open_of o)) (idle s.counter s.query b.joins.accepted) in
    let state_is = joined_state o s t CallBegin Done b.joins in
    quiet o s t (Begin ask) CallBegin (Begun left) (λ system. Some (record { ask = ask; table = system.table; commits = system.commits; left = blocks o.limits })) b.joins refl refl
    (λ system state.
    ap (step_of o.limits system s.number (member_of o s) (Begin ask)) none
    ∙ (λ i. numbered (member_of o s) system (record { reply = Begun (sym b.left_is i); next = counted_with (Some (record { ask = ask; table = system.table; commits = system.commits; left = blocks o.limits })) s.number (member_of o s) system })))
    (λ system. refl)
    (λ system state.
    (λ i. Some (record { ask = ask; table = ((ap (λ (x : State). x.table) state ∙ sym (ap (λ (x : State). x.table) state_is)) i); commits = ((ap (λ (x : State). x.commits) state ∙ sym (ap (λ (x : State). x.commits) state_is)) i); left = blocks o.limits }))
    ∙ ap (option_map (open_of o)) (sym b.query))

-- a query ends
pub finished : (o : Opening) (s t : Standing) (ranked : List Ranked) → Finishes o s ranked t → StepsTo o s Finish (Answer ranked) t
finished o s t ranked f =
    let query = open_of o f.answer.asking in
    let is : option_map (open_of o) s.query ≡ Some query = ap (option_map (open_of o)) f.answer.is_open in
    quiet o s t Finish CallFinish (Answer ranked) (λ system. None) f.joins refl refl
    (λ system state.
    ap (step_of o.limits system s.number (member_of o s) Finish) is
    ∙ ap (λ b. numbered (member_of o s) system (cond b (refused (NotDone query.left) system) (record { reply = Answer (answer_of query.ask (entries query.table)); next = counted_with None s.number (member_of o s) system }))) (no_left query.left f.answer.done)
    ∙ (λ i. numbered (member_of o s) system (record { reply = Answer (sym f.answer.answer i); next = counted_with None s.number (member_of o s) system })))
    (λ system. refl)
    (λ system state. ap (option_map (open_of o)) (sym f.query))

pub not_done : (o : Opening) (s t : Standing) (left : ℕ) → Sees o s t → own_refusal s CallFinish ≡ None → HasLeft s left → StepsTo o s Finish (RefusedReply (NotDone left)) t
not_done o s t left sees accepted h = grind (arith, stays, let_in_steps, let_in, some_left)

pub abandoned : (o : Opening) (s t : Standing) → Joins o s CallAbandon Done t → t.query ≡ None → StepsTo o s Abandon Abandoned t
abandoned o s t j none =
    let asking = busy s.counter s.query j.accepted in
    quiet o s t Abandon CallAbandon Abandoned (λ system. None) j refl refl
    (λ system state. ap (step_of o.limits system s.number (member_of o s) Abandon) (ap (option_map (open_of o)) asking.1))
    (λ system. refl)
    (λ system state. ap (option_map (open_of o)) (sym none))

-- a scan
unchanged : (system : System) (client : ℕ) (member : Member) (query : Open) → seat client system.members ≡ Some member → option_map snapshot member.query ≡ Some (snapshot query) → state_of (scanned_with query client member system) ≡ state_of system
unchanged system client member query at same = grind (arith, with_seat-map, with_seat_self, client_there, commits)

pub scanned_step : (o : Opening) (s t : Standing) (left : ℕ) → Scanned o s left t → StepsTo o s ScanAct (Left left) t
scanned_step o s t left h =
    let who = member_of o s in
    let query = open_of o h.asking in
    let is : option_map (open_of o) s.query ≡ Some query = ap (option_map (open_of o)) h.is_open in
    let fewer : query.left - 1 ≡ h.after.left = (let l = h.scans.left in omega arith) in
    let some : 0 < query.left = (let l = h.scans.left in omega arith) in
    let new : one_less query ≡ open_of o (record { scan = h.after; at_begin = h.asking.at_begin }) = λ i. record { ask = sym h.scans.ask i; table = query.table; commits = query.commits; left = fewer i } in
    record {
      at = t.seen;
      further = h.further;
      legal = h.legal;
      same = h.same;
      joins = inl (record { seen = refl; counted = h.counted });
      returned = λ system state there.
          let step_is : step_by o s ScanAct system ≡ record { reply = Left left; next = scanned_with (one_less query) s.number who system } =
          somebody_steps o.limits system s.number ScanAct who there ∙ ap (step_of o.limits system s.number who ScanAct) is
          ∙ ap (λ b. cond b (record { reply = Left (query.left - 1); next = scanned_with (one_less query) s.number who system }) (refused AllScanned system)) (some_left query.left some)
          ∙ (λ i. record { reply = Left ((fewer ∙ sym h.left_is) i); next = scanned_with (one_less query) s.number who system }) in
          record {
            reply_is = ap (λ (x : Step). x.reply) step_is;
            state = ap (λ (x : Step). state_of x.next) step_is ∙ unchanged system s.number who (one_less query) there (ap (option_map snapshot) is) ∙ state;
            member = ap (λ (x : Step). seat s.number x.next.members) step_is ∙ seat-with_seat_same system.members s.number who (record { calls = who.calls; query = Some (one_less query) }) there
                ∙ (λ i. Some (record { calls = sym h.counted i; query = (ap Some new ∙ ap (option_map (open_of o)) (sym h.query)) i }));
          };
    }

pub no_query : (o : Opening) (s t : Standing) → Sees o s t → s.query ≡ None → StepsTo o s ScanAct (RefusedReply NoQuery) t
no_query o s t sees none = stays o s t ScanAct (RefusedReply NoQuery) sees (λ system state. ap (step_of o.limits system s.number (member_of o s) ScanAct) (ap (option_map (open_of o)) none))

pub all_scanned : (o : Opening) (s t : Standing) (asking : Asking) → Sees o s t → s.query ≡ Some asking → asking.scan.left ≡ 0 → StepsTo o s ScanAct (RefusedReply AllScanned) t
all_scanned o s t asking sees is none = grind (arith, stays, no_left)
