-- How many calls each client has made along a legal history.
use Rattle.pref_share.proofs.Common.{◌≡◌, ℕ, zero, suc, ◌+◌, ◌*◌, ◌^◌, ◌<◌, ◌≤◌, false, ◌==◌, List, [], ◌∷◌, ◌++◌, length, Option, Some, None, refl, sym, ap, ◌∙◌, subst, arith}
use Rattle.pref_share.proofs.Common.{AllByRecursion, sum_by, length-append, length-set, filter, filter-append, IsPrefix, All-from_recursion, Call, Op, State, Client, Snapshot, seat, with_seat}
use Rattle.pref_share.proofs.Common.{counted, begun_after, after, calls_of, begun_of, idle_clients, IsLegalCall, IsLegalHistory, state_after, numbered_of}
use Rattle.pref_share.proofs.Common.{seat-with_seat_same, seat-with_seat_other, count_by, true, history_of}
use Rattle.std.proofs.lemmas.List.Sums.{sum_by-le}
use Rattle.pref_core.proofs.BoundsLaws.{sum_by-set_suc, AllByRecursion-set}

pub after_clients : (n : ℕ) (s : State) (client : ℕ) (call : Call) → (after n s client call).clients ≡ counted s client call
after_clients n s client call = grind (arith)

-- who makes a legal call
pub record IsCaller (s : State) (op : Op) : Type 0 where
  pub who : Client
  pub at : seat op.client s.clients ≡ Some who
  pub number : op.number ≡ suc who.calls
  pub few : who.calls < 2 ^ 56

pub caller : (n : ℕ) (s : State) (op : Op) → IsLegalCall n s (numbered_of op) → IsCaller s op
caller n s op legal = grind (arith)

-- the client after its call
abbrev pub one_more : State → Call → Client → Client
one_more s call who = record { calls = suc who.calls; at_begin = begun_after s call who.at_begin }

pub seat_own : (n : ℕ) (s : State) (client : ℕ) (call : Call) (who : Client) → seat client s.clients ≡ Some who → seat client (after n s client call).clients ≡ Some (one_more s call who)
seat_own n s client call who at = grind (arith, after_clients, seat-with_seat_same)

pub seat_other : (n : ℕ) (s : State) (client other : ℕ) (call : Call) → (client ≡ other → ⊥) → seat client (after n s other call).clients ≡ seat client s.clients
seat_other n s client other call apart = grind (arith, after_clients, seat-with_seat_other)

abbrev pub calls_in : Option Client → Option ℕ
calls_in o = elim o [ None ↦ None | Some found ↦ Some found.calls ]

abbrev pub begun_in : Option Client → Option Snapshot
begun_in o = elim o [ None ↦ None | Some found ↦ found.at_begin ]

pub calls_own : (n : ℕ) (s : State) (op : Op) → IsCaller s op → calls_of (after n s op.client op.call) op.client ≡ Some op.number
calls_own n s op c = ap calls_in (seat_own n s op.client op.call c.who c.at) ∙ ap Some (sym c.number)

pub begun_own : (n : ℕ) (s : State) (op : Op) → IsCaller s op → begun_of (after n s op.client op.call) op.client ≡ begun_after s op.call (begun_of s op.client)
begun_own n s op c = ap begun_in (seat_own n s op.client op.call c.who c.at) ∙ ap (λ o. begun_after s op.call (begun_in o)) (sym c.at)

calls_other : (n : ℕ) (s : State) (client : ℕ) (op : Op) → (client ≡ op.client → ⊥) → calls_of (after n s op.client op.call) client ≡ calls_of s client
calls_other n s client op apart = ap calls_in (seat_other n s client op.client op.call apart)

begun_other : (n : ℕ) (s : State) (client : ℕ) (op : Op) → (client ≡ op.client → ⊥) → begun_of (after n s op.client op.call) client ≡ begun_of s client
begun_other n s client op apart = ap begun_in (seat_other n s client op.client op.call apart)

count_now : (n : ℕ) (s : State) (op : Op) (client m : ℕ) → IsCaller s op → client ≡ op.client → calls_of s client ≡ Some m → calls_of (after n s op.client op.call) client ≡ Some (suc m)
count_now n s op client m c e is = grind (arith, calls_own)

pub count_own : (client : ℕ) (op : Op) (ops : List Op) → (op.client == client) ≡ true → count_by client (op ∷ ops) ≡ suc (count_by client ops)
count_own client op ops own = rw own refl

pub count_other : (client : ℕ) (op : Op) (ops : List Op) → (op.client == client) ≡ false → count_by client (op ∷ ops) ≡ count_by client ops
count_other client op ops other = rw other refl

pub count_last : (client : ℕ) (ops : List Op) (op : Op) → count_by client (ops ++ op ∷ []) ≡ count_by client ops + count_by client (op ∷ [])
count_last client ops op = ap length (filter-append (λ (x : Op). x.client == client) ops (op ∷ [])) ∙ length-append (filter (λ (x : Op). x.client == client) ops) (filter (λ (x : Op). x.client == client) (op ∷ []))

pub count_prefix : (client : ℕ) (xs ys : List Op) → IsPrefix xs ys → count_by client xs ≤ count_by client ys
count_prefix client xs ys p =
    omega (arith, ap (count_by client) p.1, ap length (filter-append (λ (op : Op). op.client == client) xs p.0), length-append (filter (λ (op : Op). op.client == client) xs) (filter (λ (op : Op). op.client == client) p.0))

-- along a legal history a client's count goes up by its calls
pub calls_counted : (n : ℕ) (s : State) (ops : List Op) (client m : ℕ) → IsLegalHistory n s (history_of ops) → calls_of s client ≡ Some m → calls_of (state_after n s (history_of ops)) client ≡ Some (m + count_by client ops)
calls_counted n s [] client m legal is = is ∙ ap Some (omega arith)
calls_counted n s (op ∷ ops) client m legal is =
    grind (arith, caller n s op legal.0, count_now, calls_other, calls_counted n (after n s op.client op.call) ops client)

-- where a client's count stays, no call is its own, and its query stays
pub none_own : (n : ℕ) (s : State) (ops : List Op) (client m : ℕ) → IsLegalHistory n s (history_of ops) → calls_of s client ≡ Some m → calls_of (state_after n s (history_of ops)) client ≡ Some m
    → AllByRecursion (λ op. (op.client == client) ≡ false) ops × (begun_of (state_after n s (history_of ops)) client ≡ begun_of s client)
none_own n s [] client m legal is still = (tt, refl)
none_own n s (op ∷ ops) client m legal is still =
    grind (arith, caller n s op legal.0, calls_counted n s (op ∷ ops) client m legal is, calls_other, begun_other, none_own n (after n s op.client op.call) ops client m legal.1)

-- all calls of all clients
abbrev total : State → ℕ
total s = sum_by (λ who. who.calls) s.clients

record CountsOne (before after : List Client) : Type 0 where
  long : length after ≡ length before
  few : AllByRecursion (λ who. who.calls ≤ 2 ^ 56) before → AllByRecursion (λ who. who.calls ≤ 2 ^ 56) after
  all : sum_by (λ who. who.calls) after ≡ suc (sum_by (λ who. who.calls) before)

with_seat_counts : (clients : List Client) (client : ℕ) (new who : Client) → seat client clients ≡ Some who → who.calls < 2 ^ 56 → new.calls ≡ suc who.calls → CountsOne clients (with_seat client new clients)
with_seat_counts clients zero new who at few same = absurd (cc)
with_seat_counts clients (suc k) new who at few same = grind (arith, length-set, AllByRecursion-set, sum_by-set_suc)

counts_one : (n : ℕ) (s : State) (op : Op) → IsCaller s op → CountsOne s.clients (after n s op.client op.call).clients
counts_one n s op c = subst (CountsOne s.clients) (sym (after_clients n s op.client op.call)) (rw (c.at, counted) (with_seat_counts s.clients op.client (one_more s op.call c.who) c.who c.at c.few refl))

-- the clients stay
pub length-after : (n : ℕ) (s : State) (ops : List Op) → IsLegalHistory n s (history_of ops) → length (state_after n s (history_of ops)).clients ≡ length s.clients
length-after n s [] legal = refl
length-after n s (op ∷ ops) legal = length-after n (after n s op.client op.call) ops legal.1 ∙ (counts_one n s op (caller n s op legal.0)).long

-- no legal history is longer than all clients have numbers
few_from : (n : ℕ) (s : State) (ops : List Op) → IsLegalHistory n s (history_of ops) → AllByRecursion (λ who. who.calls ≤ 2 ^ 56) s.clients → total s + length ops ≤ length s.clients * 2 ^ 56
few_from n s [] legal few = grind (arith, sum_by-le, All-from_recursion)
few_from n s (op ∷ ops) legal few =
    let one = counts_one n s op (caller n s op legal.0) in
    let rest = few_from n (after n s op.client op.call) ops legal.1 (one.few few) in
    omega (arith, one.all, ap (λ k. k * 2 ^ 56) one.long)

idle_few : (n : ℕ) → AllByRecursion (λ who. who.calls ≤ 2 ^ 56) (idle_clients n)
idle_few zero = tt
idle_few (suc n) = (omega arith, idle_few n)

pub length-idle : (n : ℕ) → length (idle_clients n) ≡ n
length-idle zero = refl
length-idle (suc n) = ap suc (length-idle n)

pub few_ops : (n clients : ℕ) (s : State) (ops : List Op) → s.clients ≡ idle_clients clients → clients ≤ 8 → IsLegalHistory n s (history_of ops) → length ops ≤ 2 ^ 59
few_ops n clients s ops is eight legal = grind (arith, few_from, idle_few, length-idle)

pub idle_seat : (clients client : ℕ) → 0 < client → client ≤ clients → seat client (idle_clients clients) ≡ Some (record { calls = 0; at_begin = None })
idle_seat (suc n) (suc (suc k)) some within = idle_seat n (suc k) (omega arith) (omega arith)
idle_seat clients client some within = grind (arith)
