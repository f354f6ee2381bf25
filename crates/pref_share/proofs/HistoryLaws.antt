-- Legal operations: how a list of them grows, and what its store stands for.
use Rattle.pref_share.proofs.Common.{arith, ◌≡◌, ◌≤◌, List, [], ◌∷◌, ◌++◌, map, length, Some, Ok, Err, ℕ, refl, sym, ap, ◌∙◌, subst, IsPrefix, Call, Op, CoreFault, State, after, refusal, Contents, StandsFor}
use Rattle.pref_share.proofs.Common.{IsLegal, PlansIn, applied, ran, IsLegalHistory, state_after, numbered_of, AreLegalOps, Opening, IsLegalFrom, MayFollow, LegalIsHistory, first_contents}
use Rattle.pref_share.proofs.Common.{first_state, history_of, contents_at, state_at, AreLetIn}
use Rattle.pref_core.proofs.LegalLaws.{applied_stands, IsNext-from}
use Rattle.pref_core.proofs.VisibleAfterOp.{length-applied, length-ran}
use Rattle.pref_core.proofs.HistoryLaws.{ops_are_history}
use Rattle.pref_core.proofs.OpeningLaws.{opened_stands}

abbrev pub reached : Contents → State → List Op → State
reached contents state ops = state_after (length contents.slots) state (map numbered_of ops)

pub ran-append : (contents : Contents) (xs ys : List Op) → ran contents (xs ++ ys) ≡ ran (ran contents xs) ys
ran-append contents [] ys = refl
ran-append contents (x ∷ xs) ys = ran-append (applied contents x) xs ys

pub legal_beginning : (contents : Contents) (state : State) (xs ys : List Op) → AreLegalOps state contents (xs ++ ys) → AreLegalOps state contents xs
legal_beginning contents state [] ys legal = tt
legal_beginning contents state (x ∷ xs) ys legal = (legal.0, legal_beginning (applied contents x) (after (length contents.slots) state x.client x.call) xs ys legal.1)

pub legal_append : (contents : Contents) (state : State) (xs ys : List Op) → StandsFor contents state → AreLegalOps state contents xs → AreLegalOps (reached contents state xs) (ran contents xs) ys → AreLegalOps state contents (xs ++ ys)
legal_append contents state [] ys stands legal more = more
legal_append contents state (x ∷ xs) ys stands legal more =
    grind (arith, length-applied contents state x, applied_stands contents state x, legal_append (applied contents x) (after (length contents.slots) state x.client x.call) xs ys)

-- what the test of each operation lets in is legal
pub legal_from_let_in : (contents : Contents) (state : State) (ops : List Op) → StandsFor contents state → AreLetIn contents ops → AreLegalOps state contents ops
legal_from_let_in contents state [] stands let_in = tt
legal_from_let_in contents state (op ∷ ops) stands let_in =
    grind (arith, IsNext-from, applied_stands contents state op, legal_from_let_in (applied contents op) (after (length contents.slots) state op.client op.call) ops)

-- the opening, over which all histories of a board stand
pub opens : (o : Opening) → length o.rows ≤ o.limits.capacity → StandsFor (first_contents o) (first_state o) × (length (first_contents o).slots ≡ o.limits.capacity)
opens o fits = opened_stands o.limits.clients o.limits.capacity o.rows (first_contents o) fits refl refl refl refl

pub state_at_is : (o : Opening) (ops : List Op) → length o.rows ≤ o.limits.capacity → reached (first_contents o) (first_state o) ops ≡ state_at o ops
state_at_is o ops fits = ap (λ n. state_after n (first_state o) (history_of ops)) (opens o fits).1

pub legal_stands : (o : Opening) (ops : List Op) → IsLegalFrom o ops → StandsFor (contents_at o ops) (state_at o ops)
legal_stands o ops legal =
    subst (StandsFor (contents_at o ops)) (state_at_is o ops legal.fits) (ops_are_history (first_contents o) (first_state o) ops (opens o legal.fits).0 legal.each).1

-- the same of a store that is seen to be what the history leaves
pub left_stands : (o : Opening) (ops : List Op) (store : Contents) → IsLegalFrom o ops → store ≡ contents_at o ops → StandsFor store (state_at o ops)
left_stands o ops store legal is = subst (λ (s : Contents). StandsFor s (state_at o ops)) (sym is) (legal_stands o ops legal)

-- A plan on the store that a legal history leaves may follow it, ..
pub planned : (o : Opening) (ops : List Op) (store : Contents) (client : ℕ) (call : Call) (op : Op) → IsLegalFrom o ops → store ≡ contents_at o ops
    → ((state : State) → StandsFor store state → PlansIn state store client call (Ok op)) → (op.client ≡ client) × (op.call ≡ call) × MayFollow o ops op
planned o ops store client call op legal is plans =
    subst (λ (x : Contents). (op.client ≡ client) × (op.call ≡ call) × IsLegal (state_at o ops) x op) is (plans (state_at o ops) (left_stands o ops store legal is))

-- .. and a refusal to plan is the sequential table's.
pub unplanned : (o : Opening) (ops : List Op) (store : Contents) (client : ℕ) (call : Call) (fault : CoreFault) → IsLegalFrom o ops → store ≡ contents_at o ops
    → ((state : State) → StandsFor store state → PlansIn state store client call (Err fault)) → refusal (state_at o ops) client call ≡ Some fault
unplanned o ops store client call fault legal is plans = plans (state_at o ops) (left_stands o ops store legal is)

pub legal_capacity : (o : Opening) (ops : List Op) → length o.rows ≤ o.limits.capacity → length (contents_at o ops).slots ≡ o.limits.capacity
legal_capacity o ops fits = length-ran ops (first_contents o) ∙ (opens o fits).1

history_rest : (n : ℕ) (s : State) (xs ys : List Op) → IsLegalHistory n s (history_of (xs ++ ys)) → IsLegalHistory n (state_after n s (history_of xs)) (history_of ys)
history_rest n s [] ys legal = legal
history_rest n s (x ∷ xs) ys legal = history_rest n (after n s x.client x.call) xs ys legal.1

pub legal_is_history : LegalIsHistory
legal_is_history o ops legal =
    let opened = opens o legal.fits in
    subst (λ n. IsLegalHistory n (first_state o) (history_of ops)) opened.1 (ops_are_history (first_contents o) (first_state o) ops opened.0 legal.each).0

-- what follows a beginning is a legal history there, ..
pub rest_history : (o : Opening) (xs ys : List Op) → IsLegalFrom o (xs ++ ys) → IsLegalHistory o.limits.capacity (state_at o xs) (history_of ys)
rest_history o xs ys legal = history_rest o.limits.capacity (first_state o) xs ys (legal_is_history o (xs ++ ys) legal)

-- .. and the beginning is one
pub legal-prefix : (o : Opening) (xs ys : List Op) → IsPrefix xs ys → IsLegalFrom o ys → IsLegalFrom o xs
legal-prefix o xs ys p legal = grind (arith, legal_beginning (first_contents o) (first_state o) xs p.0, p.1)

-- one more operation
pub legal-more : (o : Opening) (xs : List Op) (op : Op) → IsLegalFrom o xs → MayFollow o xs op → IsLegalFrom o (xs ++ op ∷ [])
legal-more o xs op legal may = grind (arith, legal_append (first_contents o) (first_state o) xs (op ∷ []), opens, state_at_is)

state_after-append : (n : _) (state : State) (xs ys : List Op) → state_after n state (map numbered_of (xs ++ ys)) ≡ state_after n (state_after n state (map numbered_of xs)) (map numbered_of ys)
state_after-append n state [] ys = refl
state_after-append n state (x ∷ xs) ys = state_after-append n (after n state x.client x.call) xs ys

pub state_at-append : (o : Opening) (xs ys : List Op) → state_at o (xs ++ ys) ≡ state_after o.limits.capacity (state_at o xs) (history_of ys)
state_at-append o xs ys = state_after-append o.limits.capacity (first_state o) xs ys
