-- Runs of acts, one act longer, and what stands at a place of two lists.
use Rattle.pref_share.proofs.Common.{length-map, ◌≡◌, ℕ, ◌<◌, Bool, true, false, List, [], ◌∷◌, ◌++◌, ◌+◌, length, map, get_or, Some, refl, sym, ap, ◌∙◌, subst, arith}
use Rattle.pref_share.proofs.Common.{append_assoc, get_or-map, length-append, All, Act, Reply, ShareFault}
use Rattle.pref_share.proofs.Common.{Held, Sees, IsLegalFrom, Opening, Standing, StepsTo, Runs, none, then, RunsTo, StopsAt, nobody, Did, Ends}
use Rattle.std.specs.List.{zip}
use Rattle.std.proofs.lemmas.Simd.{map-map}
use Rattle.std.proofs.lemmas.Slice.Zip.{seconds-zip}
use Rattle.pref_share.specs.declared.run.Job.{Job}
use Rattle.pref_share.specs.TaskResults.{jobs_of}
use Rattle.pref_share.proofs.ActSteps.{sees_same}

-- acts leave a client its number
same_number : (o : Opening) (s t : Standing) (acts : List Act) (replies : List Reply) → RunsTo o s acts replies t → t.number ≡ s.number
same_number o s t acts replies run = go acts replies run.stands t run.runs
  where
    go : (acts : List Act) (replies : List Reply) (stands : List Standing) (u : Standing) → Runs o s acts replies stands u → u.number ≡ s.number
    go _ _ _ _ none = refl
    go _ _ _ _ (then acts replies stands t act reply u runs step) = step.same ∙ go acts replies stands t runs

-- Where a client stands in its task, at the turn of the next act: it has done the first of the acts, and the task took the replies.
pub record Goes {T : Type 0} (o : Opening) (says : ℕ → ℕ → Bool → Type 0) (left : T → List Act) (took : T → List Reply → Type 0) (s : Standing) (acts : List Act) (client : Standing) (task : T) (turn : ℕ) : Type 0 where
  pub done : List Act
  pub replies : List Reply
  pub runs : RunsTo o s done replies client
  pub in_order : acts ≡ done ++ left task
  pub legal : IsLegalFrom o client.seen
  pub taken : took task replies
  pub turns : turn ≡ length done
  pub let_in : (turn : ℕ) → turn < length done → says s.number turn true

module _ {T : Type 0} (o : Opening) (says : ℕ → ℕ → Bool → Type 0) (left : T → List Act) (took : T → List Reply → Type 0) (s : Standing) (acts : List Act) where
  abbrev Now : Standing → T → ℕ → Type 0
  Now client task turn = Goes o says left took s acts client task turn

  pub goes_first : (task : T) → acts ≡ left task → took task [] → IsLegalFrom o s.seen → Now s task 0
  goes_first task same fresh legal = record {
    done = [];
    replies = [];
    runs = record { stands = []; runs = none };
    in_order = same;
    legal = legal;
    taken = fresh;
    turns = refl;
    let_in = λ turn lt. absurd (omega arith);
  }

  -- the next act came, and was answered
  pub goes_more : (client next : Standing) (old came taken : T) (turn : ℕ) (act : Act) (reply : Reply) → Now client old turn → left old ≡ act ∷ left came → ((replies : List Reply) → took old replies → took came replies) → says s.number turn true
      → StepsTo o client act reply next → left taken ≡ left came → ((replies : List Reply) → took came replies → took taken (replies ++ reply ∷ [])) → Now next taken (turn + 1)
  goes_more client next old came taken turn act reply now comes kept said step same takes = record {
    done = now.done ++ act ∷ [];
    replies = now.replies ++ reply ∷ [];
    runs = record { stands = now.runs.stands ++ next ∷ []; runs = then now.done now.replies now.runs.stands client act reply next now.runs.runs step };
    in_order = now.in_order ∙ ap (λ rest. now.done ++ rest) (comes ∙ ap (λ rest. act ∷ rest) (sym same)) ∙ sym (append_assoc now.done (act ∷ []) (left taken));
    legal = step.legal;
    taken = takes now.replies (kept now.replies now.taken);
    turns = ap (λ n. n + 1) now.turns ∙ sym (length-append now.done (act ∷ []));
    let_in = λ turn lt. grind (arith, now.let_in, length-append, now.turns, said);
  }

  -- it stopped before the next act, and has seen no less since
  stops : (client stopped : Standing) (old came : T) (turn : ℕ) (act : Act) (fault : ShareFault) (now : Now client old turn) → left old ≡ act ∷ left came → ((replies : List Reply) → took old replies → took came replies) → Sees o client stopped
      → Ends (λ client. says client (length now.done)) stopped (act ∷ left came) (Some fault) → (replies : List Reply) × took came replies × Did o says s acts (record { client = stopped; replies = replies; stopped = Some fault })
  stops client stopped old came turn act fault now comes kept sees ends = grind (arith)

  -- it was held before the next act
  pub goes_held : (client : Standing) (old came : T) (turn : ℕ) (act : Act) → Now client old turn → left old ≡ act ∷ left came → ((replies : List Reply) → took old replies → took came replies) → says s.number turn false
      → (replies : List Reply) × took came replies × Did o says s acts (record { client = client; replies = replies; stopped = Some (Held s.number) })
  goes_held client old came turn act now comes kept said = stops client client old came turn act (Held s.number) now comes kept (sees_same o client client now.legal refl)
      ((sym (same_number o s client now.done now.replies now.runs), omega arith, subst (λ n. says s.number n false) now.turns said), tt)

  -- the next act stopped it
  pub goes_no_further : (client stopped : Standing) (old came : T) (turn : ℕ) (act : Act) (fault : ShareFault) → Now client old turn → left old ≡ act ∷ left came → ((replies : List Reply) → took old replies → took came replies) → says s.number turn true
      → Sees o client stopped × StopsAt nobody stopped (act ∷ []) fault → (replies : List Reply) × took came replies × Did o says s acts (record { client = stopped; replies = replies; stopped = Some fault })
  goes_no_further client stopped old came turn act fault now comes kept said (sees, stopping) =
      let number : s.number ≡ stopped.number = sym (same_number o s client now.done now.replies now.runs) ∙ sym sees.same in
      let said_here : says stopped.number (length now.done) true = subst (λ n. says n (length now.done) true) number (subst (λ n. says s.number n true) now.turns said) in
      stops client stopped old came turn act fault now comes kept sees (grind (arith, said_here))

-- what holds of all images holds so of what has them
pub all_mapped : {A B : Type 0} (f : A → B) (P : B → Type 0) (xs : List A) (ys : List B) → map f xs ≡ ys → All P ys → All (λ x. P (f x)) xs
all_mapped f P xs ys same all = λ i d lt. subst P (ap (λ l. get_or l i (f d)) (sym same) ∙ get_or-map f xs i d (f d) lt) (all i (f d) (omega (arith, lt, ap length same, length-map xs f)))

-- the tasks of jobs
pub tasks_of_jobs : (J : Type 0) {T : Type 0} (clients : List Standing) (tasks : List T) → length tasks ≡ length clients → map (λ (job : Job J T). job.task) (jobs_of clients tasks) ≡ tasks
tasks_of_jobs J {T} clients tasks long = map-map (λ (job : Job J T). job.task) _ (zip clients tasks) ∙ seconds-zip clients tasks long
