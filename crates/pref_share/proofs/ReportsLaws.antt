-- The reports of clients, and what follows from them of the whole run.
use Rattle.pref_share.proofs.Common.{◌≡◌, ℕ, suc, ◌<◌, Bool, false, List, [], ◌∷◌, ◌++◌, length, map, get_or, Option, Some, None, Result, Ok, IfOk, refl, sym, ap, ◌∙◌, subst, arith}
use Rattle.pref_share.proofs.Common.{All, append-nil, Op, Act, Reply, ShareFault, Opening, calls_at, Standing, RunsTo, StopsAt, Each, IsPart, Reported, reported_in, first_fault, Ends, Did}
use Rattle.pref_share.proofs.Common.{StandsWithin, DidTask, report_of, Worked, Listed}
use Rattle.pref_share.specs.declared.run.Job.{Job}
use Rattle.pref_share.specs.TaskResults.{jobs_of}
use Rattle.pref_share.proofs.PrefixLaws.{prefix_trans}

module _ (o : Opening) (says : ℕ → ℕ → Bool → Type 0) (history : List Op) where
  abbrev DidWithin : Standing → List Act → Reported → Type 0
  DidWithin client list report = Did o says client list report × StandsWithin o history report.client

  -- the part of a client that did not stop
  part : (client : Standing) (list : List Act) (report : Reported) → DidWithin client list report → report.stopped ≡ None → IsPart o history client list report.replies
  part client list report (did, within) went_on =
      let nothing_left : did.rest ≡ [] = subst (λ (x : Option ShareFault). Ends (λ client. says client (length did.done)) report.client did.rest x) went_on did.ends in
      let did_all : did.done ≡ list = sym (did.in_order ∙ ap (λ rest. did.done ++ rest) nothing_left ∙ append-nil did.done) in
      record {
        last = did.last;
        runs = subst (λ (l : List Act). RunsTo o client l report.replies did.last) did_all did.runs;
        within = record { inside = prefix_trans did.last.seen report.client.seen history did.since.further within.inside; alone = ap (calls_at o history) (sym did.since.same) ∙ within.alone ∙ ap Some did.since.counted };
      }

  -- the parts of all clients, where none stopped
  pub parts : (clients : List Standing) (acts : List (List Act)) (reports : List Reported) → Each DidWithin clients acts reports → first_fault (map (λ report. report.stopped) reports) ≡ None → Each (IsPart o history) clients acts (map (λ report. report.replies) reports)
  parts [] [] [] each none = tt
  parts (client ∷ clients) (list ∷ acts) (report ∷ reports) (here, each) none = grind (arith, part client list report here, parts clients acts reports each)
  parts clients acts reports each none = absurd each

  -- Why the first of these clients stopped that did, as each client may stop: with these acts left, and held only where its gate may hold it.
  pub first_stops : (clients : List Standing) (acts : List (List Act)) (reports : List Reported) (fault : ShareFault) → Each DidWithin clients acts reports → first_fault (map (λ report. report.stopped) reports) ≡ Some fault
      → (s : Standing) × (rest : List Act) × (turn : ℕ) × StopsAt (λ client. says client turn false) s rest fault
  first_stops [] [] [] fault each first = absurd (cc)
  first_stops (client ∷ clients) (list ∷ acts) (report ∷ reports) fault ((did, within), each) first = go report.stopped did.ends first (first_stops clients acts reports fault each)
    where
      go : (stopped : Option ShareFault) → Ends (λ client. says client (length did.done)) report.client did.rest stopped → first_fault (stopped ∷ map (λ report. report.stopped) reports) ≡ Some fault
          → (first_fault (map (λ report. report.stopped) reports) ≡ Some fault → (s : Standing) × (rest : List Act) × (turn : ℕ) × StopsAt (λ client. says client turn false) s rest fault)
          → (s : Standing) × (rest : List Act) × (turn : ℕ) × StopsAt (λ client. says client turn false) s rest fault
      go None ends e others = others e
      go (Some why) ends e others = (report.client, did.rest, length did.done, subst (StopsAt (λ client. says client (length did.done) false) report.client did.rest) (cc) ends.0)
  first_stops clients acts reports fault each first = absurd each

  module _ {J T : Type 0} (left : T → List Act) (took : T → T → List Reply → Type 0) where
    abbrev EndedWithin : Standing → T → Worked J T → Type 0
    EndedWithin client task worked = DidTask o says (took task) client (left task) worked × StandsWithin o history worked.client

    -- what came of each task, from what its worker says
    pub worked_each : {E : Type 0} (clients : List Standing) (tasks : List T) (all : List (Worked J T)) → length tasks ≡ length clients → length all ≡ length (jobs_of {J = J} {T = T} clients tasks)
        → ((i : ℕ) (job : Job J T) (d : Result (Worked J T) E) → i < length (jobs_of {J = J} {T = T} clients tasks)
        → IfOk (get_or (map Ok all) i d) (DidTask o says (took (get_or (jobs_of {J = J} {T = T} clients tasks) i job).task) (get_or (jobs_of {J = J} {T = T} clients tasks) i job).client (left (get_or (jobs_of {J = J} {T = T} clients tasks) i job).task)))
        → All (λ worked. StandsWithin o history worked.client) all → Each EndedWithin clients tasks all
    worked_each {E} [] [] [] many size did within = tt
    worked_each {E} (client ∷ clients) (task ∷ tasks) (worked ∷ all) many size did within = (
      (did 0 (record { client = client; task = task }) (Ok worked) (omega arith), within 0 worked (omega arith)),
      worked_each {E = E} clients tasks all (omega arith) (omega arith) (λ i job d lt. did (suc i) job d (omega arith)) (λ i d lt. within (suc i) d (omega arith)),
    )
    worked_each {E} clients tasks all many size did within = absurd (omega arith)

    -- the reports of tasks, with the replies that they took
    pub reports_of_tasks : (clients : List Standing) (tasks : List T) (all : List (Worked J T)) → Each EndedWithin clients tasks all
        → (reports : List Reported) × Each took tasks (map (λ worked. worked.task) all) (map (λ report. report.replies) reports) × Each DidWithin clients (map left tasks) reports × (map (λ report. report.stopped) reports ≡ map (λ worked. worked.stopped) all)
    reports_of_tasks [] [] [] each = ([], tt, tt, refl)
    reports_of_tasks (client ∷ clients) (task ∷ tasks) (worked ∷ all) (((replies, taken, did), within), each) =
        let (reports, others, told, stopped) = reports_of_tasks clients tasks all each in
        (record { client = worked.client; replies = replies; stopped = worked.stopped } ∷ reports, (taken, others), ((did, within), told), ap (λ l. worked.stopped ∷ l) stopped)
    reports_of_tasks clients tasks all each = absurd each

  -- the reports of lists of acts
  pub reports_of_lists : {J : Type 0} (left : Listed → List Act) (clients : List Standing) (tasks : List Listed) (all : List (Worked J Listed)) → Each (EndedWithin left (λ _ listed replies. listed.replies.items ≡ replies)) clients tasks all
      → Each DidWithin clients (map left tasks) (map reported_in (map report_of all))
  reports_of_lists left [] [] [] each = tt
  reports_of_lists left (client ∷ clients) (task ∷ tasks) (worked ∷ all) (((replies, taken, did), within), each) =
      ((subst (λ (l : List Reply). Did o says client (left task) (record { client = worked.client; replies = l; stopped = worked.stopped })) (sym taken) did, within), reports_of_lists left clients tasks all each)
  reports_of_lists left clients tasks all each = absurd each

-- the replies that lists of acts took
pub replies_of_lists : (tasks done : List Listed) (replies : List (List Reply)) → Each (λ _ listed took. listed.replies.items ≡ took) tasks done replies → map (λ list. list.items) (map (λ listed. listed.replies) done) ≡ replies
replies_of_lists [] [] [] each = refl
replies_of_lists (task ∷ tasks) (listed ∷ done) (took ∷ replies) (here, each) = λ i. here i ∷ replies_of_lists tasks done replies each i
replies_of_lists tasks done replies each = absurd each
