-- What a machine returns at each act is the system's reply: calls on queries, and gets and rooms.
use Rattle.pref_core.proofs.Common.{◌≡◌, ℕ, List, ◌-◌, true, false, cond, length, Option, Some, None, is_some, Ok, Err, Result, refl, sym, ap, ◌∙◌, subst, arith}
use Rattle.pref_core.proofs.Common.{Does, option_map, Question, Ranked, answer_of, Begin, Finish, Abandon, Call, Op, CoreFault, NotDone, MissingRow, Act, ActBegin, ActFinish}
use Rattle.pref_core.proofs.Common.{ActAbandon, ActGet, ActRoom, Reply, Answer, Abandoned, Begun, Found, Room, Row, Line, line_of, entries, State, is_change, seat, begin, blocks, AreAllowed}
use Rattle.pref_core.proofs.Common.{refusal_by_query, begun_after, needed, Open, Member, System, snapshot, state_of, refused, counted_with, step, StandsFor}
use Rattle.pref_core.proofs.Common.{applied, called, Scan, Running, Follows, StandsForQuery, StandsForSystem, Returns, is_refusal, AnswersAt, IsPlan, Version, step_of}
use Rattle.std.specs.Global.{Vec}
use Rattle.pref_core.specs.MachineParts.{numbered}
use Rattle.pref_core.specs.Step.{query_of}
use Rattle.pref_core.proofs.QueryLaws.{follows_answered}
use Rattle.pref_core.proofs.SystemsLaws.{IsPlanned, IsPlanned-from, follows_begun, queried_stands, query_shows}
use Rattle.pref_core.proofs.ChangeReplies.{somebody_steps, let_in_steps}
use Rattle.pref_core.proofs.ScanReplies.{some_left, no_left}

-- What a call on a query returns, where this is its step.
called_returns : (old : Running) (system : System) (client : ℕ) (act : Act) (call : Call) (op : Op) (planned : IsPlanned old system client call op) (scan : Option Scan) (query : Option Open) (reply : Reply) → is_change call ≡ false → is_refusal reply ≡ false
    → step_of old.limits system client planned.let_in.who act planned.let_in.who.query ≡ numbered planned.let_in.who system (record { reply = reply; next = counted_with query client planned.let_in.who system })
    → option_map snapshot query ≡ begun_after (state_of system) call (option_map snapshot planned.let_in.who.query) → StandsForQuery (applied old.contents op).slots scan query
    → Returns old (step old.limits system (record { client = client; act = act })) act (Ok reply) (called old client op scan)
called_returns old system client act call op planned scan query reply still quiet is kept mine =
    subst (λ r. Returns old r act (Ok reply) (called old client op scan)) (sym (somebody_steps old.limits system client act planned.let_in.who planned.let_in.at ∙ is ∙ let_in_steps planned.let_in.who system _ planned.let_in.unspent))
    (refl, quiet, queried_stands old system client call op scan query still planned kept mine)

-- A query begins.
pub begin_does : (old : Running) (client : ℕ) (ask : Question) (op : Op) → AreAllowed old.limits → IsPlan old.contents client Begin op
    → Does old client (ActBegin ask) (Ok (Begun (blocks old.limits))) (called old client op (Some (begin ask old.contents.stamp old.limits)))
begin_does old client ask op allowed plan = record {
  limits = refl;
  returns = λ system h.
      let planned = IsPlanned-from old system client Begin op h plan in
      called_returns old system client (ActBegin ask) Begin op planned _ (Some (query_of ask old.limits system)) (Begun (blocks old.limits)) refl refl (let let_in = planned.let_in.allowed in grind (arith)) refl
      (follows_begun old.limits (applied old.contents op).slots ask system old.contents.stamp allowed planned.long h.store.stamp);
}

-- A query is abandoned.
pub abandon_does : (old : Running) (client : ℕ) (op : Op) → IsPlan old.contents client Abandon op → Does old client ActAbandon (Ok Abandoned) (called old client op None)
abandon_does old client op plan = record {
  limits = refl;
  returns = λ system h.
      let planned = IsPlanned-from old system client Abandon op h plan in
      called_returns old system client ActAbandon Abandon op planned None None Abandoned refl refl (let let_in = planned.let_in.allowed in grind (arith)) refl tt;
}

-- who may finish has a query
record IsAsking (slots : List (Option Version)) (scan : Option Scan) (query : Option Open) : Type 0 where
  held : Scan
  asked : Open
  place : scan ≡ Some held
  is : query ≡ Some asked
  follows : Follows slots held asked

IsAsking-from : (slots : List (Option Version)) (scan : Option Scan) (query : Option Open) → StandsForQuery slots scan query → refusal_by_query (is_some (option_map snapshot query)) Finish ≡ None → IsAsking slots scan query
IsAsking-from slots scan query s a = grind (arith)

-- A query finishes.
pub finish_does : (old : Running) (client : ℕ) (op : Op) (ranked : Vec Ranked) → IsPlan old.contents client Finish op → AnswersAt (seat client old.scans) (Ok ranked) → Does old client ActFinish (Ok (Answer ranked.items)) (called old client op None)
finish_does old client op ranked plan says = record {
  limits = refl;
  returns = λ system h.
      let planned = IsPlanned-from old system client Finish op h plan in
      let who = planned.let_in in
      let asks = IsAsking-from old.contents.slots who.scan who.who.query who.stands who.allowed in
      let answers = subst (λ o. AnswersAt o (Ok ranked)) (who.place ∙ ap Some asks.place) says in
      let shows = query_shows old system client who.who asks.asked h who.at asks.is in
      let answer = follows_answered old.contents.slots asks.held asks.asked ranked.items shows asks.follows answers.0 answers.1 in
      called_returns old system client ActFinish Finish op planned None None (Answer ranked.items) refl refl
      (
      ap (step_of old.limits system client who.who ActFinish) asks.is
      ∙ ap (λ b. numbered who.who system (cond b (refused (NotDone asks.asked.left) system) (record { reply = Answer (answer_of asks.asked.ask (entries asks.asked.table)); next = counted_with None client who.who system }))) (no_left asks.asked.left (sym asks.follows.left ∙ answers.0))
      ∙ ap (λ l. numbered who.who system (record { reply = Answer l; next = counted_with None client who.who system })) (sym answer)
      )
      refl tt;
}

-- .. or is not done, or there is no memory for its answer.
pub finish_not_done : (old : Running) (client : ℕ) (op : Op) (fault : CoreFault) → IsPlan old.contents client Finish op → AnswersAt (seat client old.scans) (Err fault) → Does old client ActFinish (Err fault) old
finish_not_done old client op fault plan says = record {
  limits = refl;
  returns = λ system h.
      let planned = IsPlanned-from old system client Finish op h plan in
      let who = planned.let_in in
      let asks = IsAsking-from old.contents.slots who.scan who.who.query who.stands who.allowed in
      let answers = subst (λ o. AnswersAt o (Err fault)) (who.place ∙ ap Some asks.place) says in
      let left = asks.follows.left in
      grind (arith, somebody_steps, some_left, no_left);
}

-- Reads of a client that is there.
abbrev pub found_or_missing : ℕ → Option Row → Result Reply CoreFault
found_or_missing id None = Err (MissingRow id)
found_or_missing id (Some row) = Ok (Found id row)

-- a read of a client that is there
read_does : (old : Running) (client : ℕ) (act : Act) (result : Result Reply CoreFault) → is_some (seat client old.scans) ≡ true
    → ((system : System) (member : Member) → StandsForSystem old system → Returns old (step_of old.limits system client member act member.query) act result old) → Does old client act result old
read_does old client act result here says = grind (arith, somebody_steps)

pub get_does : (old : Running) (client id : ℕ) (row : Option Row) → is_some (seat client old.scans) ≡ true
    → ((state : State) → StandsFor old.contents state → row ≡ option_map (λ (l : Line). l.row) (line_of state.table id)) → Does old client (ActGet id) (found_or_missing id row) old
get_does old client id row here says = read_does old client (ActGet id) (found_or_missing id row) here (λ system member h. let is = says (state_of system) h.store in grind (arith))

pub room_does : (old : Running) (client room : ℕ) → is_some (seat client old.scans) ≡ true → ((state : State) → StandsFor old.contents state → room ≡ length old.contents.slots - length (needed state)) → Does old client ActRoom (Ok (Room room)) old
room_does old client room here says = read_does old client ActRoom (Ok (Room room)) here (λ system member h. let is = says (state_of system) h.store in grind (arith, h.capacity))
