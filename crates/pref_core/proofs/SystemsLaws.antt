-- What runs stands for the system, call by call.
use Rattle.pref_core.proofs.Common.{◌≡◌, ℕ, zero, suc, ◌^◌, true, false, nat_lt, List, [], ◌∷◌, map, length, replicate, Option, Some, None, is_some, refl, sym, ap, ◌∙◌, subst, option_map}
use Rattle.pref_core.proofs.Common.{Question, Version, Call, Outcome, Op, Reply, NoSuchClient, Row, Limits, AreAllowed, blocks, State, Client, Snapshot, seat, with_seat, begun_of}
use Rattle.pref_core.proofs.Common.{refusal, refusal_of, refusal_by_query, is_change, outcome, counted, begun_after, after, opening, idle_clients, Open, Member, System, snapshot}
use Rattle.pref_core.proofs.Common.{client_of, state_of, counted_with, scanned_with, changed, opened, Contents, StandsFor, Shows, IsLegal, applied, Scan, begin, Running, Follows}
use Rattle.pref_core.proofs.Common.{StandsForQuery, StandsForMember, StandsForSystem, IsPlan, called, Ok, arith}
use Rattle.pref_core.proofs.LegalLaws.{applied_stands, plans_in}
use Rattle.pref_core.proofs.StabilityLaws.{shown, seat-with_seat_same, seat-with_seat_other}
use Rattle.pref_core.proofs.VisibleAfterOp.{begun_kept, length-ran, shown_applied}
use Rattle.pref_core.proofs.QueryLaws.{begun_on_its_way, way_stays}
use Rattle.pref_core.proofs.SeatLaws.{with_seat_self, seat-map, with_seat-map}

-- what the state keeps of a client that is there
pub client_there : (system : System) (client : ℕ) (member : Member) → seat client system.members ≡ Some member → seat client (state_of system).clients ≡ Some (client_of member)
client_there system client member at = seat-map client_of client system.members ∙ ap (option_map client_of) at

pub begun_there : (system : System) (client : ℕ) (member : Member) → seat client system.members ≡ Some member → begun_of (state_of system) client ≡ option_map snapshot member.query
begun_there system client member at = ap (λ (o : Option Client). elim o as (λ x. Option Snapshot) [ None ↦ None | Some found ↦ found.at_begin ]) (client_there system client member at)

pub refusal_there : (system : System) (client : ℕ) (member : Member) (call : Call) → seat client system.members ≡ Some member → refusal (state_of system) client call ≡ refusal_of (Some member.calls) (is_some (option_map snapshot member.query)) call
refusal_there system client member call at = grind (arith, client_there)

pub refusal_nobody : (system : System) (client : ℕ) (call : Call) → seat client system.members ≡ None → refusal (state_of system) client call ≡ Some NoSuchClient
refusal_nobody system client call at = grind (arith, seat-map)

-- the state in which the client has made this call too
abbrev pub noted : System → ℕ → Call → State
noted system client call = record { table = system.table; next_id = system.next_id; commits = system.commits; clients = counted (state_of system) client call }

pub state_of-counted : (system : System) (client : ℕ) (member : Member) (call : Call) (query : Option Open) → seat client system.members ≡ Some member → option_map snapshot query ≡ begun_after (state_of system) call (option_map snapshot member.query)
    → state_of (counted_with query client member system) ≡ noted system client call
state_of-counted system client member call query at e = grind (arith, with_seat-map, client_there)

-- a call that is no change
pub after_quiet : (capacity : ℕ) (system : System) (client : ℕ) (call : Call) → is_change call ≡ false → after capacity (state_of system) client call ≡ noted system client call
after_quiet capacity system client call c = rw c refl

pub begun_after-change : (state : State) (call : Call) (found : Option Snapshot) → is_change call ≡ true → found ≡ begun_after state call found
begun_after-change state call found c = grind (arith)

pub state_of-changed : (capacity : ℕ) (system : System) (client : ℕ) (member : Member) (call : Call) (done : Reply) → seat client system.members ≡ Some member → is_change call ≡ true
    → state_of (changed (outcome capacity (state_of system) call) done call (counted_with member.query client member system)).next ≡ after capacity (state_of system) client call
state_of-changed capacity system client member call done at c = grind (arith, state_of-counted)

pub members-changed : (o : Outcome) (done : Reply) (call : Call) (counted_one : System) → (changed o done call counted_one).next.members ≡ counted_one.members
members-changed o done call counted_one = grind (arith)

-- who is let in: a client with a call left, its place, and a query that lets the call in
pub record IsLetIn (running : Running) (system : System) (client : ℕ) (call : Call) : Type 0 where
  pub who : Member
  pub at : seat client system.members ≡ Some who
  pub unspent : nat_lt who.calls (2 ^ 56) ≡ true
  pub allowed : refusal_by_query (is_some (option_map snapshot who.query)) call ≡ None
  pub scan : Option Scan
  pub place : seat client running.scans ≡ Some scan
  pub stands : StandsForQuery running.contents.slots scan who.query

IsLetIn-from : (running : Running) (system : System) (client : ℕ) (call : Call) → StandsForSystem running system → refusal (state_of system) client call ≡ None → IsLetIn running system client call
IsLetIn-from running system client call h accepted = go (seat client system.members) refl (seat client running.scans) refl (h.members client)
  where
    go : (m : Option Member) → seat client system.members ≡ m → (s : Option (Option Scan)) → seat client running.scans ≡ s → StandsForMember running.contents.slots s m → IsLetIn running system client call
    go (Some member) at (Some scan) place stands =
        let let_in = sym (refusal_there system client member call at) ∙ accepted in
        record { who = member; at = at; unspent = grind (arith); allowed = grind (arith); scan = scan; place = place; stands = stands }
    go (Some member) at None place stands = absurd stands
    go None at s place stands = absurd (let refused = sym (refusal_nobody system client call at) ∙ accepted in cc)

query_stays : (before after : List (Option Version)) (scan : Option Scan) (query : Option Open) → length after ≡ length before
    → ((open_ : Open) → query ≡ Some open_ → shown open_.commits after ≡ shown open_.commits before)
    → StandsForQuery before scan query → StandsForQuery after scan query
query_stays before after (Some scan) (Some query) long same h =
    record { ask = h.ask; stamp = h.stamp; left = h.left; way = way_stays before after scan long (subst (λ n. shown n after ≡ shown n before) (sym h.stamp) (same query refl)) h.way }
query_stays before after scan query long same h = grind (arith)

-- an op leaves what a client's query stands for
member_stays : (running : Running) (system : System) (op : Op) (client : ℕ) → StandsForSystem running system → (scan : Option (Option Scan)) (member : Option Member) → seat client system.members ≡ member
    → StandsForMember running.contents.slots scan member → StandsForMember (applied running.contents op).slots scan member
member_stays running system op client h (Some scan) (Some member) at s =
    query_stays running.contents.slots (applied running.contents op).slots scan member.query (length-ran (op ∷ []) running.contents)
    (λ query is. shown_applied running.contents (state_of system) op client (snapshot query) h.store (begun_there system client member at ∙ ap (option_map snapshot) is)) s
member_stays running system op client h scan member at s = grind (arith)

-- a client's place and the client, both changed
placed : (slots : List (Option Version)) (scans : List (Option Scan)) (members : List Member) (client : ℕ) (scan held : Option Scan) (member new : Member) → seat client members ≡ Some member → seat client scans ≡ Some held → StandsForQuery slots scan new.query
    → ((other : ℕ) → StandsForMember slots (seat other scans) (seat other members)) → (other : ℕ) → StandsForMember slots (seat other (with_seat client scan scans)) (seat other (with_seat client new members))
placed slots scans members client scan held member new at place mine h other = grind (arith, seat-with_seat_same, seat-with_seat_other)

-- A planned call: who is let in, its outcome, and that what runs once it is done stands for what it leaves.
pub record IsPlanned (running : Running) (system : System) (client : ℕ) (call : Call) (op : Op) : Type 0 where
  pub let_in : IsLetIn running system client call
  pub outcome : op.outcome ≡ outcome running.limits.capacity (state_of system) call
  pub long : length (applied running.contents op).slots ≡ running.limits.capacity
  pub stays : StandsForQuery (applied running.contents op).slots let_in.scan let_in.who.query
  pub stands : (next : System) (new : Member) (scan : Option Scan) → state_of next ≡ after running.limits.capacity (state_of system) client call → next.members ≡ with_seat client new system.members
      → StandsForQuery (applied running.contents op).slots scan new.query → StandsForSystem (called running client op scan) next

pub IsPlanned-from : (running : Running) (system : System) (client : ℕ) (call : Call) (op : Op) → StandsForSystem running system → IsPlan running.contents client call op → IsPlanned running system client call op
IsPlanned-from running system client call op h plan =
    subst (λ n. IsPlanned running system n call op) plan.by (subst (λ c. IsPlanned running system op.client c op) plan.what (of_op (plans_in running.contents (state_of system) client call (Ok op) h.store plan).2))
  where
    of_op : IsLegal (state_of system) running.contents op → IsPlanned running system op.client op.call op
    of_op legal =
        let who = IsLetIn-from running system op.client op.call h legal.next.accepted in
        let long = length-ran (op ∷ []) running.contents ∙ h.capacity in
        let stays = λ (other : ℕ). member_stays running system op other h (seat other running.scans) (seat other system.members) refl (h.members other) in
        record {
          let_in = who;
          outcome = legal.next.outcome ∙ ap (λ n. outcome n (state_of system) op.call) h.capacity;
          long = long;
          stays = member_stays running system op op.client h (Some who.scan) (Some who.who) who.at who.stands;
          stands = λ next new scan is members mine. record {
            store = subst (StandsFor (applied running.contents op)) (sym is) (subst (λ n. StandsFor (applied running.contents op) (after n (state_of system) op.client op.call)) h.capacity (applied_stands running.contents (state_of system) op h.store legal));
            capacity = long;
            members = subst (λ l. (other : ℕ) → StandsForMember (applied running.contents op).slots (seat other (with_seat op.client scan running.scans)) (seat other l)) (sym members)
                (placed (applied running.contents op).slots running.scans system.members op.client scan who.scan who.who new who.at who.place mine stays);
          };
        }

-- the system after a planned change
pub changed_stands : (running : Running) (system : System) (client : ℕ) (call : Call) (op : Op) (done : Reply) → is_change call ≡ true → (planned : IsPlanned running system client call op)
    → StandsForSystem (record { contents = applied running.contents op; limits = running.limits; scans = running.scans }) (changed op.outcome done call (counted_with planned.let_in.who.query client planned.let_in.who system)).next
changed_stands running system client call op done c planned =
    let who = planned.let_in in
    let next = λ (o : Outcome). (changed o done call (counted_with who.who.query client who.who system)).next in
    subst (λ o. StandsForSystem (record { contents = applied running.contents op; limits = running.limits; scans = running.scans }) (next o)) (sym planned.outcome)
    (subst (λ s. StandsForSystem (record { contents = applied running.contents op; limits = running.limits; scans = s }) (next (outcome running.limits.capacity (state_of system) call))) (with_seat_self client running.scans who.scan who.place)
    (planned.stands _ (record { calls = suc who.who.calls; query = who.who.query }) who.scan (state_of-changed running.limits.capacity system client who.who call done who.at c)
    (members-changed (outcome running.limits.capacity (state_of system) call) done call (counted_with who.who.query client who.who system)) planned.stays))

-- .. and after a planned call on a query
pub queried_stands : (running : Running) (system : System) (client : ℕ) (call : Call) (op : Op) (scan : Option Scan) (query : Option Open) → is_change call ≡ false → (planned : IsPlanned running system client call op)
    → option_map snapshot query ≡ begun_after (state_of system) call (option_map snapshot planned.let_in.who.query) → StandsForQuery (applied running.contents op).slots scan query
    → StandsForSystem (called running client op scan) (counted_with query client planned.let_in.who system)
queried_stands running system client call op scan query c planned e mine =
    let who = planned.let_in.who in
    planned.stands (counted_with query client who system) (record { calls = suc who.calls; query = query }) scan
    (state_of-counted system client who call query planned.let_in.at e ∙ sym (after_quiet running.limits.capacity system client call c)) refl mine

pub follows_begun : (limits : Limits) (slots : List (Option Version)) (ask : Question) (system : System) (stamp : ℕ) → AreAllowed limits → length slots ≡ limits.capacity → stamp ≡ system.commits
    → Follows slots (begin ask stamp limits) (record { ask = ask; table = system.table; commits = system.commits; left = blocks limits })
follows_begun limits slots ask system stamp allowed long here = record { ask = refl; stamp = here; left = refl; way = begun_on_its_way limits slots ask stamp allowed long }

-- A scan: the client's query is another, and nothing else has changed.
pub scanned_stands : (running : Running) (system : System) (client : ℕ) (member : Member) (held scan : Scan) (query : Open) → seat client system.members ≡ Some member → seat client running.scans ≡ Some (Some held) → option_map snapshot member.query ≡ Some (snapshot query) → StandsForSystem running system
    → Follows running.contents.slots scan query
    → StandsForSystem (record { contents = running.contents; limits = running.limits; scans = with_seat client (Some scan) running.scans }) (scanned_with query client member system)
scanned_stands running system client member held scan query at place same h mine = grind (arith, placed, with_seat-map, with_seat_self, client_there)

-- what an open query found, the slots still show
pub query_shows : (running : Running) (system : System) (client : ℕ) (member : Member) (query : Open) → StandsForSystem running system → seat client system.members ≡ Some member → member.query ≡ Some query → Shows running.contents.slots query.commits query.table
query_shows running system client member query h at is = (begun_kept running.contents (state_of system) client (snapshot query) h.store (begun_there system client member at ∙ ap (option_map snapshot) is)).2

idle_is : (n : ℕ) → idle_clients n ≡ map client_of (replicate n (record { calls = 0; query = None }))
idle_is zero = refl
idle_is (suc n) = ap (λ l. (record { calls = 0; at_begin = None }) ∷ l) (idle_is n)

no_place : (slots : List (Option Version)) (n client : ℕ) → StandsForMember slots (seat client (replicate {A = Option Scan} n None)) (seat client (replicate n (record { calls = 0; query = None })))
no_place slots (suc n) (suc (suc k)) = no_place slots n (suc k)
no_place slots n client = grind (arith)

-- A machine as it is opened.
pub opened_system : (contents : Contents) (limits : Limits) (rows : List Row) (scans : List (Option Scan)) → StandsFor contents (opening limits.clients rows) → length contents.slots ≡ limits.capacity → scans ≡ replicate limits.clients None
    → StandsForSystem (record { contents = contents; limits = limits; scans = scans }) (opened limits rows)
opened_system contents limits rows scans store capacity none = grind (arith, idle_is, no_place)
