-- What a client's counter and query are along the history that it sees.
use Rattle.pref_share.proofs.Common.{first_contents, ◌≡◌, ℕ, suc, ◌<◌, ◌≤◌, true, false, ◌&&◌, ◌==◌, List, [], ◌∷◌, ◌++◌, Option, Some, None, is_some, Result, Ok, refl, sym, ap}
use Rattle.pref_share.proofs.Common.{◌∙◌, subst, arith, MatchResult, IfOk, IfErr, AllByRecursion, Vec, IsPrefix, Call, Op, ShareFault, CoreFault, State}
use Rattle.pref_share.proofs.Common.{Snapshot, is_change, calls_of, begun_of, begun_after, after, refusal, refusal_of, Contents, Shows}
use Rattle.pref_share.proofs.Common.{eqb-true, same_number, state_after, begin, NextIsNew, IsScanned, Answers, begun_after-change, Opening, IsLegalFrom}
use Rattle.pref_share.proofs.Common.{history_of, contents_at, state_at, calls_at, Asking, Standing, Sees, Joins, Changes, RefusesChange, IsAnswer, own_refusal}
use Rattle.pref_share.proofs.Common.{AsksOrNone, Asks, Stands, GivesNone, snapshot_at, outcome_or_refusal}
use Rattle.pref_term.specs.Question.{Question}
use Rattle.pref_sky.specs.declared.entry.Ranked.{Ranked}
use Rattle.pref_core.specs.declared.store.caller.Caller.{Caller}
use Rattle.pref_core.specs.declared.call.Call.TheVariants.{Begin}
use Rattle.pref_core.specs.declared.call.Outcome.{Outcome}
use Rattle.pref_core.specs.Stability.{is_end, ends_query}
use Rattle.pref_core.specs.Scans.{Scan}
use Rattle.std.proofs.Math.Bool.{and-false}
use Rattle.pref_core.proofs.VisibleAfterOp.{begun_kept}
use Rattle.pref_core.proofs.QueryLaws.{stays_on_its_way, begun_on_its_way, next_is_new_on_its_way, scanned_on_its_way, answers_the_begin}
use Rattle.pref_share.proofs.PrefixLaws.{prefix_self, prefix_trans}
use Rattle.pref_share.proofs.HistoryLaws.{legal-more, legal-prefix, legal_stands, legal_capacity, ran-append, state_at-append, rest_history}
use Rattle.pref_share.proofs.CallCounts.{calls_in, begun_in, calls_own, begun_own, count_prefix, none_own, idle_seat}
use Rattle.pref_share.proofs.LastCalls.{counted_at, last_caller}
use Rattle.pref_share.proofs.Common.{⊎_elim, OutOfMemory, IsTurn, JoinsBehind, RefusesToJoin}
use Rattle.pref_share.specs.declared.client.calls.Joined.{Joined}
use Rattle.pref_share.proofs.Common.{rules, Bool, cond, nat_lt, added, success_outcome, Added, Done, Full, NoRow}
use Rattle.pref_core.specs.State.{outcome}

none_ends : (client : ℕ) (ops : List Op) → AllByRecursion (λ op. (op.client == client) ≡ false) ops → AllByRecursion (λ op. ends_query client op ≡ false) ops
none_ends client [] h = tt
none_ends client (op ∷ ops) h = (ap (λ b. b && is_end op.call) h.0, none_ends client ops h.1)

-- the client's query, where the history goes on with operations of which none ends it
followed : (o : Opening) (number : ℕ) (at rest longer : List Op) (query : Option Asking) → IsLegalFrom o at → at ++ rest ≡ longer → begun_of (state_at o longer) number ≡ begun_of (state_at o at) number
    → AllByRecursion (λ op. ends_query number op ≡ false) rest → AsksOrNone o at number query → AsksOrNone o longer number query
followed o number at rest longer None legal whole begun none h = begun ∙ h
followed o number at rest longer (Some asking) legal whole begun none h =
    let kept = begun_kept (contents_at o at) (state_at o at) number (snapshot_at o asking.at_begin) (legal_stands o at legal) h.found in
    record {
      at_begin = prefix_trans asking.at_begin at longer h.at_begin (rest, whole);
      found = begun ∙ h.found;
      stamp = h.stamp;
      way = subst (λ (c : Contents). Rattle.pref_core.specs.Queries.IsOnItsWay c.slots asking.scan) (sym (ran-append (first_contents o) at rest) ∙ ap (contents_at o) whole)
          (stays_on_its_way (contents_at o at) number asking.scan (kept.0 ∙ ap Some (sym h.stamp)) (subst (λ n. n ≤ (contents_at o at).stamp) (sym h.stamp) kept.1) rest none h.way);
    }

-- the same at a longer history that holds none of the client's calls beyond those that it counts
pub moved_up : (o : Opening) (number counter : ℕ) (seen longer : List Op) (query : Option Asking) → Stands o number counter seen query → IsPrefix seen longer → IsLegalFrom o longer → calls_at o longer number ≡ Some counter → AsksOrNone o longer number query
moved_up o number counter seen longer query h p legal is =
    let (rest, whole) = prefix_trans h.at seen longer h.before p in
    let state : state_at o longer ≡ state_after o.limits.capacity (state_at o h.at) (history_of rest) = ap (state_at o) (sym whole) ∙ state_at-append o h.at rest in
    let (none, begun) = none_own o.limits.capacity (state_at o h.at) rest number counter (rest_history o h.at rest (subst (IsLegalFrom o) (sym whole) legal)) h.count (ap (λ s. calls_of s number) (sym state) ∙ is) in
    followed o number h.at rest longer query (legal-prefix o h.at seen h.before h.legal) whole (ap (λ s. begun_of s number) state ∙ begun) (none_ends number rest none) h.follows

-- a new client
pub stands_new : (o : Opening) (number : ℕ) (seen : List Op) → IsLegalFrom o seen → seen ≡ [] → (0 < number) × (number ≤ o.limits.clients) → Stands o number 0 seen None
stands_new o number seen legal none one_of = grind (arith, idle_seat, calls_in, begun_in)

-- a client that has seen more
pub stands_seen : (o : Opening) (number counter : ℕ) (seen longer : List Op) (query : Option Asking) → Stands o number counter seen query → IsPrefix seen longer → IsLegalFrom o longer → Stands o number counter longer query
stands_seen o number counter seen longer query h p legal = search (rules, prefix_trans)

-- the same, of all that it has seen
stands_whole : (o : Opening) (number counter : ℕ) (seen : List Op) (query : Option Asking) → IsLegalFrom o seen → (0 < number) × (number ≤ o.limits.clients) → calls_at o seen number ≡ Some counter → AsksOrNone o seen number query → Stands o number counter seen query
stands_whole o number counter seen query legal one_of count follows = record { legal = legal; one_of = one_of; at = seen; before = prefix_self seen; count = count; follows = follows }

-- where the whole history holds no more calls of a client than it made, it holds just these
pub even : (o : Opening) (number counter made : ℕ) (seen whole : List Op) (query : Option Asking) → Stands o number counter seen query → made ≡ counter → IsTurn o number made seen whole → calls_at o whole number ≡ Some counter
even o number counter made seen whole query h same turn =
    let at = prefix_trans h.at seen whole h.before turn.further in
    grind (arith, legal-prefix o h.at whole at turn.legal, counted_at, count_prefix number h.at whole at)

change_ends_none : (call : Call) → is_change call ≡ true → is_end call ≡ false
change_ends_none call h = grind (arith)

-- the end of a query asks for no memory, and is done
pub end_takes_no_memory : (call : Call) → is_end call ≡ true → nat_lt 0 (added call) ≡ true → ⊥
end_takes_no_memory call ends h = grind (arith)

pub end_done : (n : ℕ) (state : State) (call : Call) → is_end call ≡ true → outcome n state call ≡ Done
end_done n state call ends = grind (arith)

none_after : (state : State) (call : Call) (found : Option Snapshot) → is_end call ≡ true → begun_after state call found ≡ None
none_after state call found h = grind (arith)

-- the history and the state behind a call
record IsAdded (o : Opening) (old : Standing) (call : Call) (before seen : List Op) : Type 0 where
  legal : IsLegalFrom o seen
  state : state_at o seen ≡ after o.limits.capacity (state_at o before) old.number call
  count : calls_at o seen old.number ≡ Some (suc old.counter)
  at_begin : begun_of (state_at o seen) old.number ≡ begun_after (state_at o before) call (begun_of (state_at o before) old.number)

-- A call of a client, which joined behind what the client had made.
module _ (o : Opening) (old : Standing) (made : ℕ) (call : Call) (j : Joined (List Op)) (stands : Stands o old.number old.counter old.seen old.query) (same : made ≡ old.counter) (h : JoinsBehind o old.number made old.seen call j) where
  alone : calls_at o h.before old.number ≡ Some old.counter
  alone = even o old.number old.counter made old.seen h.before old.query stands same h.turn

  next : h.appended.op.number ≡ suc old.counter
  next = sym (eqb-true _ _ (subst (λ n. same_number n h.appended.op.number ≡ true) (ap (calls_of (state_at o h.before)) h.appended.by ∙ alone) h.appended.may.next.number))

  is_added : IsAdded o old call h.before j.seen
  is_added = grind (arith, next, legal-more, last_caller, state_at-append, calls_own, begun_own)

  -- what it tells
  pub joins : (new : Standing) → own_refusal old call ≡ None → new.seen ≡ j.seen → new.counter ≡ suc old.counter → new.number ≡ old.number → Joins o old call j.outcome new
  joins new accepted seen counter number = grind (arith, alone, next, legal_capacity, legal-more)

  -- the client after a change, ..
  pub stands_changed : (counter : ℕ) → is_change call ≡ true → counter ≡ suc old.counter → Stands o old.number counter j.seen old.query
  stands_changed counter change up = grind (arith, is_added, alone, change_ends_none call change, and-false, begun_after-change, stands_whole, followed, moved_up)

  -- .. after a begin, ..
  pub stands_begun : (counter : ℕ) (ask : Question) → call ≡ Begin → counter ≡ suc old.counter → Stands o old.number counter j.seen (Some (record { scan = begin ask j.stamp o.limits; at_begin = j.seen }))
  stands_begun counter ask begins up =
      let a = subst (λ c. IsAdded o old c h.before j.seen) begins is_added in
      let found : snapshot_at o h.before ≡ snapshot_at o j.seen = ap (λ (s : State). record { table = s.table; commits = s.commits }) (sym a.state) in
      stands_whole o old.number counter j.seen (Some (record { scan = begin ask j.stamp o.limits; at_begin = j.seen })) a.legal stands.one_of (a.count ∙ ap Some (sym up))
      (record {
        at_begin = prefix_self j.seen;
        found = a.at_begin ∙ ap Some found;
        stamp = h.commits;
        way = begun_on_its_way o.limits (contents_at o j.seen).slots ask j.stamp a.legal.allowed (legal_capacity o j.seen a.legal.fits);
      })

  -- .. and after its query ended
  pub stands_ended : (counter : ℕ) → is_end call ≡ true → counter ≡ suc old.counter → Stands o old.number counter j.seen None
  stands_ended counter ends up = grind (arith, is_added, stands_whole, none_after)

-- the table at an open query's begin is what the slots show there
asks_shows : (o : Opening) (at : List Op) (number : ℕ) (asking : Asking) → IsLegalFrom o at → Asks o at number asking → Shows (contents_at o at).slots asking.scan.stamp (state_at o asking.at_begin).table
asks_shows o at number asking legal h =
    subst (λ n. Shows (contents_at o at).slots n (state_at o asking.at_begin).table) (sym h.stamp)
    (begun_kept (contents_at o at) (state_at o at) number (snapshot_at o asking.at_begin) (legal_stands o at legal) h.found).2

-- the open query's answer is that of the table at its begin
pub answers : (o : Opening) (number counter : ℕ) (seen : List Op) (asking : Asking) (result : Result (Vec Ranked) CoreFault) → Stands o number counter seen (Some asking) → Answers asking.scan result
    → MatchResult result (λ ranked. IsAnswer o (record { number = number; counter = counter; seen = seen; query = Some asking }) ranked.items) (λ fault. GivesNone (record { number = number; counter = counter; seen = seen; query = Some asking }) fault)
answers o number counter seen asking (Ok ranked) h returned =
    let at_legal = legal-prefix o h.at seen h.before h.legal in
    record {
      asking = asking;
      is_open = refl;
      done = returned.0;
      answer = answers_the_begin (contents_at o h.at).slots asking.scan (state_at o asking.at_begin).table ranked.items (asks_shows o h.at number asking at_legal h.follows) h.follows.way returned.0 returned.1;
    }
answers o number counter seen asking result h returned = grind (arith)

-- the next block is new to the open query, ..
pub next_new : (o : Opening) (number counter : ℕ) (seen now : List Op) (asking : Asking) → Stands o number counter seen (Some asking) → IsPrefix seen now → IsLegalFrom o now → calls_at o now number ≡ Some counter → NextIsNew asking.scan (contents_at o now).slots
next_new o number counter seen now asking h p legal is =
    let asks = moved_up o number counter seen now (Some asking) h p legal is in
    next_is_new_on_its_way (contents_at o now).slots asking.scan (state_at o asking.at_begin).table (asks_shows o now number asking legal asks) asks.way

-- .. and a scan of it leaves the query on its way
pub stands_scanned : (o : Opening) (number counter : ℕ) (seen now : List Op) (asking : Asking) (new : Scan) → Stands o number counter seen (Some asking) → IsPrefix seen now → IsLegalFrom o now → calls_at o now number ≡ Some counter → IsScanned asking.scan (contents_at o now).slots new
    → Stands o number counter now (Some (record { scan = new; at_begin = asking.at_begin }))
stands_scanned o number counter seen now asking new h p legal is scanned =
    grind (arith, moved_up o number counter seen now (Some asking) h p legal is, asks_shows, scanned_on_its_way, stands_whole)

open_alike : (o : Opening) (number : ℕ) (at : List Op) (query : Option Asking) → AsksOrNone o at number query → is_some (begun_of (state_at o at) number) ≡ is_some query
open_alike o number at query h = grind (arith)

-- the table refuses a call as the client's own counter and query do
pub same_refusal : (o : Opening) (old : Standing) (at : List Op) (call : Call) → calls_at o at old.number ≡ Some old.counter → AsksOrNone o at old.number old.query → refusal (state_at o at) old.number call ≡ own_refusal old call
same_refusal o old at call is h = λ i. refusal_of (is i) (open_alike o old.number at old.query h i) call

-- a call that the client's own counter and query let in is refused for want of memory alone
pub only_memory : (o : Opening) (old : Standing) (made : ℕ) (call : Call) (fault : CoreFault) → Stands o old.number old.counter old.seen old.query → made ≡ old.counter → own_refusal old call ≡ None → RefusesToJoin o old.number made old.seen call fault
    → (fault ≡ OutOfMemory) × (nat_lt 0 (added call) ≡ true)
only_memory o old made call fault stands same accepted h =
    let is = even o old.number old.counter made old.seen h.before old.query stands same h.turn in
    let follows = moved_up o old.number old.counter old.seen h.before old.query stands h.turn.further h.turn.legal is in
    ⊎_elim (λ (returned : refusal (state_at o h.before) old.number call ≡ Some fault). absurd (cc (returned, same_refusal o old h.before call is follows, accepted))) (λ memory. memory) h.why

-- what a change tells by its outcome
pub change_returned : (o : Opening) (old new : Standing) (call : Call) (returned : Outcome) (result : Result Outcome ShareFault) → result ≡ outcome_or_refusal returned → Joins o old call returned new → new.query ≡ old.query
    → IfOk result (λ done. Changes o old call done new) × IfErr result (λ fault. RefusesChange o old call fault new)
change_returned o old new call returned result e j q = grind (arith)

change_succeeds : (lost : Option ℕ) (full adds : Bool) (size next_id : ℕ)
    → IfOk (outcome_or_refusal (elim lost as (λ _. Outcome) [ Some id ↦ NoRow id | None ↦ cond full (Full size) (cond adds (Added next_id) Done) ])) (λ done. (first : ℕ) × (done ≡ cond adds (Added first) Done))
change_succeeds lost full adds size next_id = grind (arith)

-- .. and that its outcome is that of one that succeeds, where it is no refusal
pub success_returned : (o : Opening) (old new : Standing) (call : Call) (returned : Outcome) (result : Result Outcome ShareFault) → result ≡ outcome_or_refusal returned → Joins o old call returned new → is_change call ≡ true
    → IfOk result (λ done. (next_id : ℕ) × (done ≡ success_outcome next_id call))
success_returned o old new call returned result e j change = grind (arith, change_succeeds)

pub sees : (o : Opening) (old new : Standing) → IsPrefix old.seen new.seen → IsLegalFrom o new.seen → new.counter ≡ old.counter → new.number ≡ old.number → new.query ≡ old.query → Sees o old new
sees o old new further legal counted same query = record { further = further; legal = legal; counted = counted; same = same; query = query }
