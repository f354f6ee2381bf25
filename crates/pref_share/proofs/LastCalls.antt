-- The last operation of a history: whose call it is, and what the others' counts are before it.
use Rattle.pref_share.proofs.Common.{◌≡◌, ℕ, ◌<◌, ◌≤◌, List, [], ◌∷◌, ◌++◌, length, Some, refl, sym, ap, ◌∙◌, arith, inl, inr, ◌⊎◌}
use Rattle.pref_share.proofs.Common.{slice_get_within, eq-eqb, count_by, Op, Act, Reply, Client, seat, Opening, IsLegalFrom, first_state}
use Rattle.pref_share.proofs.Common.{state_at, calls_at, Standing, newcomer, Runs, none, then}
use Rattle.pref_share.proofs.HistoryLaws.{rest_history, legal_is_history, legal-prefix, state_at-append}
use Rattle.pref_share.proofs.CallCounts.{IsCaller, caller, calls_in, calls_counted, count_last, count_own, count_prefix, idle_seat, length-after, length-idle, seat_other}

-- a list is empty, or has a last element
pub last_of : {A : Type 0} (xs : List A) → (xs ≡ []) ⊎ ((before : List A) × (x : A) × (before ++ x ∷ [] ≡ xs))
last_of [] = inl refl
last_of (x ∷ xs) = elim (last_of xs) [ inl empty ↦ inr ([], x, ap (λ l. x ∷ l) (sym empty)) | inr last ↦ inr (x ∷ last.0, last.1, ap (λ l. x ∷ l) last.2) ]

-- who made the last call
pub last_caller : (o : Opening) (before : List Op) (op : Op) → IsLegalFrom o (before ++ op ∷ []) → IsCaller (state_at o before) op
last_caller o before op legal = grind (arith, caller, rest_history o before (op ∷ []) legal)

-- the count of another, which stays
pub last_other : (o : Opening) (before : List Op) (op : Op) (client : ℕ) → (client ≡ op.client → ⊥) → calls_at o (before ++ op ∷ []) client ≡ calls_at o before client
last_other o before op client apart = grind (arith, state_at-append, calls_in, seat_other)

seated : (clients : List Client) (client : ℕ) (who : Client) → seat client clients ≡ Some who → (0 < client) × (client ≤ length clients)
seated clients client who e = grind (arith, slice_get_within)

-- one of the clients of the opening
abbrev pub IsOneOf : Opening → ℕ → Type 0
IsOneOf o client = (0 < client) × (client ≤ o.limits.clients)

pub last_one_of : (o : Opening) (before : List Op) (op : Op) → IsLegalFrom o (before ++ op ∷ []) → IsOneOf o op.client
last_one_of o before op legal = grind (arith, last_caller o before op legal, seated, legal_is_history, legal-prefix o before (before ++ op ∷ []) (op ∷ [], refl), length-after, length-idle)

-- a legal history counts the calls that it holds of a client
pub counted_at : (o : Opening) (ops : List Op) (number : ℕ) → IsLegalFrom o ops → IsOneOf o number → calls_at o ops number ≡ Some (count_by number ops)
counted_at o ops number legal one_of = calls_counted o.limits.capacity (first_state o) ops number 0 (legal_is_history o ops legal) (ap calls_in (idle_seat o.limits.clients number one_of.0 one_of.1)) ∙ ap Some (omega arith)

-- The client has its number still, and what it has seen holds the calls that it counts, and more if others made them.
pub record Counts (number : ℕ) (s : Standing) : Type 0 where
  pub same : s.number ≡ number
  pub grown : s.counter ≤ count_by number s.seen

-- after its acts a client's counts are right still
pub counts : (o : Opening) (number : ℕ) (acts : List Act) (replies : List Reply) (stands : List Standing) (s : Standing) → Runs o (newcomer number) acts replies stands s → Counts number s
counts o number _ _ _ _ none = record { same = refl; grown = omega arith }
counts o number _ _ _ _ (then acts replies stands t act reply u runs step) =
    grind (arith, counts o number acts replies stands t runs, count_prefix number t.seen step.at step.further, count_last, count_own, eq-eqb)
