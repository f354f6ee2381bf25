-- Runs of the sequential table that reach what the parts of all clients in a history say.
use Rattle.pref_share.proofs.Common.{◌≡◌, ℕ, zero, suc, ◌<◌, ◌≤◌, List, [], ◌∷◌, ◌++◌, map, length, Some, refl, sym, ap, ◌∙◌, subst, arith, inl, inr, ◌⊎◌, All}
use Rattle.pref_share.proofs.Common.{length-append, map-append, append-nil, filter-append, All-push, Op, Act, Reply, seat, System, state_of, opened, step, replies}
use Rattle.pref_share.proofs.Common.{Opening, IsLegalFrom, state_at, Standing, member_of, step_by, IsStep, StepsTo}
use Rattle.pref_share.specs.Interleavings.{Answered, events_of, replies_of, acts_of, part_of}
use Rattle.pref_share.proofs.HistoryLaws.{legal-prefix}
use Rattle.pref_share.proofs.SequenceLaws.{system_after, system_after-more, replies_from-more, step_leaves, opened_clients, opened_seat}
use Rattle.pref_share.proofs.LastCalls.{last_of, last_one_of, IsOneOf, counts}
use Rattle.pref_share.proofs.ClientActs.{Part, nothing_done, longer, IsPartAt, ArePartsAt, with_part, with_part-own, with_part-other, with_part-each, with_part-same, LooksNoMore}
use Rattle.pref_share.proofs.ClientActs.{NoneLooks, LooksAt, without_looks, never_empty, made_last, last_at, parts_before}

-- the system at the end of a run
abbrev pub system_of : Opening → List Answered → System
system_of o run = system_after o.limits (opened o.limits o.rows) (events_of run)

-- A run of the sequential table, in which each client has done its part, and which ends where the history does.
pub record Reached (o : Opening) (history : List Op) (parts : ℕ → Part) : Type 0 where
  pub run : List Answered
  pub acts : (number : ℕ) → IsOneOf o number → map (λ answered. answered.event.act) (part_of number run) ≡ (parts number).acts
  pub returned : (number : ℕ) → IsOneOf o number → replies_of (part_of number run) ≡ (parts number).returned
  pub nobody_else : All (λ answered. IsOneOf o answered.event.client) run
  pub answers : replies o.limits o.rows (events_of run) ≡ replies_of run
  pub state : state_of (system_of o run) ≡ state_at o history
  pub seats : (number : ℕ) → IsOneOf o number → seat number (system_of o run).members ≡ Some (member_of o (parts number).last)

-- the acts of a client's part are those of the client among the events
pub acts_of-events : (number : ℕ) (run : List Answered) → acts_of number (events_of run) ≡ map (λ (x : Answered). x.event.act) (part_of number run)
acts_of-events number [] = refl
acts_of-events number (a ∷ run) = grind (arith, acts_of-events number run)

-- one event more is in the part of its client, ..
part_own : {X : Type 0} (f : Answered → X) (number : ℕ) (run : List Answered) (a : Answered) → a.event.client ≡ number → map f (part_of number (run ++ a ∷ [])) ≡ map f (part_of number run) ++ f a ∷ []
part_own f number run a own = grind (arith, filter-append, map-append)

-- .. and in no other
part_other : {X : Type 0} (f : Answered → X) (number : ℕ) (run : List Answered) (a : Answered) → (a.event.client ≡ number → ⊥) → map f (part_of number (run ++ a ∷ [])) ≡ map f (part_of number run)
part_other f number run a other = grind (arith, filter-append, append-nil)

-- What all clients did, or the replies to them, in a run that is one event of this client longer.
part_more : {X : Type 0} (o : Opening) (f : Answered → X) (in_part : Part → List X) (number : ℕ) (old new : Part) (parts : ℕ → Part) (run : List Answered) (a : Answered) → a.event.client ≡ number → in_part new ≡ in_part old ++ f a ∷ []
    → ((n : ℕ) → IsOneOf o n → map f (part_of n run) ≡ in_part (with_part number old parts n))
    → (n : ℕ) → IsOneOf o n → map f (part_of n (run ++ a ∷ [])) ≡ in_part (with_part number new parts n)
part_more o f in_part number old new parts run a same grown before = grind (arith, with_part-each, part_own, with_part-own, part_other, with_part-other)

-- the system after one event more
system_of-more : (o : Opening) (run : List Answered) (a : Answered) → system_of o (run ++ a ∷ []) ≡ (step o.limits (system_of o run) a.event).next
system_of-more o run a = ap (system_after o.limits (opened o.limits o.rows)) (map-append (λ (x : Answered). x.event) run (a ∷ [])) ∙ system_after-more o.limits (opened o.limits o.rows) (events_of run) a.event

-- the replies, where the last one is the table's
answers-more : (o : Opening) (run : List Answered) (a : Answered) → replies o.limits o.rows (events_of run) ≡ replies_of run → (step o.limits (system_of o run) a.event).reply ≡ a.reply → replies o.limits o.rows (events_of (run ++ a ∷ [])) ≡ replies_of (run ++ a ∷ [])
answers-more o run a h is = grind (arith, map-append, replies_from-more)

-- One act more of this client, answered where the history was reached.
reached_more : (o : Opening) (number : ℕ) (p : Part) (act : Act) (reply : Reply) (u : Standing) (parts : ℕ → Part) → IsOneOf o number → p.last.number ≡ number
    → (step_to : StepsTo o p.last act reply u) → Reached o step_to.at (with_part number p parts) → Reached o u.seen (with_part number (longer p act reply u) parts)
reached_more o number p act reply u parts one_of same step_to r = record {
  run = r.run ++ last ∷ [];
  acts = part_more o (λ x. x.event.act) (λ x. x.acts) number p (longer p act reply u) parts r.run last same refl r.acts;
  returned = part_more o (λ x. x.reply) (λ x. x.returned) number p (longer p act reply u) parts r.run last same refl r.returned;
  nobody_else = All-push (λ (x : Answered). IsOneOf o x.event.client) r.run last r.nobody_else (subst (IsOneOf o) (sym same) one_of);
  answers = answers-more o r.run last r.answers is.reply_is;
  state = ap state_of (system_of-more o r.run last) ∙ is.state;
  seats = with_part-each (λ n x. IsOneOf o n → seat n (system_of o (r.run ++ last ∷ [])).members ≡ Some (member_of o x.last)) number (longer p act reply u) parts
      (λ one. now number ∙ ap (λ n. seat n after.members) (sym same) ∙ is.member)
      (λ n apart one. now n ∙ step_leaves o.limits (system_of o r.run) last.event n (λ e. apart (e ∙ same)) ∙ r.seats n one ∙ ap (λ (x : Part). Some (member_of o x.last)) (with_part-other number p parts n apart));
}
  where
    last : Answered
    last = record { event = record { client = p.last.number; act = act }; reply = reply }

    own : with_part number p parts number ≡ p
    own = with_part-own number p parts

    after : System
    after = (step_by o p.last act (system_of o r.run)).next

    is : IsStep o p.last act reply u (system_of o r.run)
    is = step_to.returned (system_of o r.run) r.state (ap (λ n. seat n (system_of o r.run).members) same ∙ r.seats number one_of ∙ ap (λ (x : Part). Some (member_of o x.last)) own)

    now : (n : ℕ) → seat n (system_of o (r.run ++ last ∷ [])).members ≡ seat n after.members
    now n = ap (λ (x : System). seat n x.members) (system_of-more o r.run last)

-- where nobody has done anything in an empty history, that is the opening
reached_none : (o : Opening) (history : List Op) (parts : ℕ → Part) → history ≡ [] → ((number : ℕ) → IsOneOf o number → parts number ≡ nothing_done number) → Reached o history parts
reached_none o history parts empty idle_all = grind (arith, opened_clients, opened_seat)

-- where no client's last act looked at the whole history, which is empty, no client has done anything
was_idle : (o : Opening) (history : List Op) (number : ℕ) (p : Part) → history ≡ [] → LooksNoMore o history number p → p ≡ nothing_done number
was_idle o history number p empty looks = grind (arith, never_empty)

-- the runs of all shorter histories
abbrev Shorter : Opening → List Op → Type 0
Shorter o history = (before : List Op) → length before < length history → IsLegalFrom o before → (parts : ℕ → Part) → ArePartsAt o before parts → Reached o before parts

-- the last call, put behind the run before it
reached_last : (o : Opening) (before : List Op) (op : Op) (parts : ℕ → Part) → IsLegalFrom o (before ++ op ∷ []) → ArePartsAt o (before ++ op ∷ []) parts
    → NoneLooks o (before ++ op ∷ []) parts → Shorter o (before ++ op ∷ []) → Reached o (before ++ op ∷ []) parts
reached_last o before op parts legal h looks shorter =
    let one_of = last_one_of o before op legal in
    let last = made_last o before op (parts op.client) legal (h op.client one_of) (looks op.client one_of) in
    let p = last.before in
    let same = counts o op.client p.acts p.returned last.runs.stands p.last last.runs.runs in
    let r = shorter before (omega (arith, length-append before (op ∷ []))) (legal-prefix o before (before ++ op ∷ []) (op ∷ [], refl) legal) (with_part op.client p parts) (parts_before o before op parts legal h looks last) in
    let at_is = (last_at o before op op.client (parts op.client) last).0 in
    let now = reached_more o op.client p last.act last.reply last.now parts one_of same.same last.step (subst (λ l. Reached o l (with_part op.client p parts)) (sym at_is) r) in
    subst (Reached o (before ++ op ∷ [])) (with_part-same op.client (longer p last.act last.reply last.now) parts last.is)
    (subst (λ l. Reached o l (with_part op.client (longer p last.act last.reply last.now) parts)) last.whole now)

-- The parts of which no last act looks at the whole history.
reached_calls : (o : Opening) (history : List Op) (parts : ℕ → Part) → IsLegalFrom o history → ArePartsAt o history parts → NoneLooks o history parts → Shorter o history → Reached o history parts
reached_calls o history parts legal h looks shorter = go (last_of history)
  where
    go : (history ≡ []) ⊎ ((before : List Op) × (op : Op) × (before ++ op ∷ [] ≡ history)) → Reached o history parts
    go (inl empty) = reached_none o history parts empty (λ number one. was_idle o history number (parts number) empty (looks number one))
    go (inr (before, op, is)) =
        subst (λ l. Reached o l parts) is
        (reached_last o before op parts (subst (IsLegalFrom o) (sym is) legal) (subst (λ l. ArePartsAt o l parts) (sym is) h) (subst (λ l. NoneLooks o l parts) (sym is) looks) (subst (Shorter o) (sym is) shorter))

-- the clients above this one look no more
abbrev NoneAbove : Opening → List Op → ℕ → (ℕ → Part) → Type 0
NoneAbove o history low parts = (number : ℕ) → low < number → IsOneOf o number → LooksNoMore o history number (parts number)

-- one client's looks at the whole history, put behind the run without them
reached_looks : (o : Opening) (history : List Op) (parts : ℕ → Part) (k : ℕ) → suc k ≤ o.limits.clients → ArePartsAt o history parts → NoneAbove o history (suc k) parts
    → ((fewer : ℕ → Part) → ArePartsAt o history fewer → NoneAbove o history k fewer → Reached o history fewer) → Reached o history parts
reached_looks o history parts k within h none_above rest =
    subst (Reached o history) (with_part-same (suc k) (parts (suc k)) parts refl)
    (without_looks o history (suc k) (λ p. Reached o history (with_part (suc k) p parts)) cut more own.acts own.returned mine.runs.stands own.last mine.runs.runs mine.is_in)
  where
    own : Part
    own = parts (suc k)

    one_of : IsOneOf o (suc k)
    one_of = (omega arith, within)

    mine : IsPartAt o history (suc k) (parts (suc k))
    mine = h (suc k) one_of

    cut : (p : Part) → IsPartAt o history (suc k) p → LooksNoMore o history (suc k) p → Reached o history (with_part (suc k) p parts)
    cut p at looks = rest (with_part (suc k) p parts)
        (with_part-each (λ n x. IsOneOf o n → IsPartAt o history n x) (suc k) p parts (λ one. at) (λ n apart. h n))
        (with_part-each (λ n x. k < n → IsOneOf o n → LooksNoMore o history n x) (suc k) p parts (λ above one. looks) (λ n apart above. none_above n (omega (arith, apart, above))))

    more : (p : Part) (act : Act) (reply : Reply) (u : Standing) → IsPartAt o history (suc k) p → LooksAt o history p act reply u → Reached o history (with_part (suc k) p parts) → Reached o history (with_part (suc k) (longer p act reply u) parts)
    more p act reply u at looks r =
        let same = counts o (suc k) p.acts p.returned at.runs.stands p.last at.runs.runs in
        let now = reached_more o (suc k) p act reply u parts one_of same.same looks.0 (subst (λ l. Reached o l (with_part (suc k) p parts)) (sym looks.1) r) in
        subst (λ l. Reached o l (with_part (suc k) (longer p act reply u) parts)) looks.2 now

-- the same for one client after the other, from the last one down
reached_below : (o : Opening) (history : List Op) (low : ℕ) → low ≤ o.limits.clients → IsLegalFrom o history → Shorter o history → (parts : ℕ → Part) → ArePartsAt o history parts → NoneAbove o history low parts → Reached o history parts
reached_below o history zero within legal shorter parts h none_above = reached_calls o history parts legal h (λ number one. none_above number one.0 one) shorter
reached_below o history (suc k) within legal shorter parts h none_above = reached_looks o history parts k within h none_above (reached_below o history k (omega arith) legal shorter)

-- the same for longer and longer histories
reached_within : (o : Opening) (most : ℕ) (history : List Op) → length history < most → IsLegalFrom o history → (parts : ℕ → Part) → ArePartsAt o history parts → Reached o history parts
reached_within o zero history l legal parts h = grind (arith, reached_below)
reached_within o (suc most) history l legal parts h = grind (arith, reached_within o most, reached_below)

-- The parts of all clients in a legal history are a run of the sequential table.
pub reached : (o : Opening) (history : List Op) → IsLegalFrom o history → (parts : ℕ → Part) → ArePartsAt o history parts → Reached o history parts
reached o history legal parts h = reached_within o (suc (length history)) history (omega arith) legal parts h
