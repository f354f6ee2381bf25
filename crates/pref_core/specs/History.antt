-- Histories of numbered calls, and the operations that make them. (this project)
use Rattle.std.specs.Prelude.{◌≡◌, ℕ, List, [], ◌∷◌, map, length, true, None}
use Rattle.pref_core.specs.declared.call.Call.{Call}
use Rattle.pref_core.specs.declared.call.Outcome.{Outcome}
use Rattle.pref_core.specs.declared.call.Op.{Op}
use Rattle.pref_core.specs.State.{State, after, refusal, calls_of, outcome, is_formed}
use Rattle.pref_core.specs.Slots.{Contents, StandsFor}
use Rattle.pref_core.specs.Operations.{IsLegal, applied, ran, same_number}

-- a numbered call of a history
pub record Numbered : Type 0 where
  pub client : ℕ
  pub number : ℕ
  pub call : Call
  pub outcome : Outcome

-- the call is let in, is its client's next one, has the outcome that it has in this state, and its changes are a commit
pub record IsLegalCall (capacity : ℕ) (state : State) (numbered : Numbered) : Type 0 where
  pub accepted : refusal state numbered.client numbered.call ≡ None
  pub next : same_number (calls_of state numbered.client) numbered.number ≡ true
  pub returned : numbered.outcome ≡ outcome capacity state numbered.call
  pub formed : is_formed numbered.call ≡ true

-- each call is legal in the state that those before it leave
abbrev pub IsLegalHistory : ℕ → State → List Numbered → Type 0
IsLegalHistory capacity state [] = Unit {0}
IsLegalHistory capacity state (numbered ∷ rest) = IsLegalCall capacity state numbered × IsLegalHistory capacity (after capacity state numbered.client numbered.call) rest

-- the state after a history
abbrev pub state_after : ℕ → State → List Numbered → State
state_after capacity state [] = state
state_after capacity state (numbered ∷ rest) = state_after capacity (after capacity state numbered.client numbered.call) rest

-- an operation without its slots
abbrev pub numbered_of : Op → Numbered
numbered_of op = record { client = op.client; number = op.number; call = op.call; outcome = op.outcome }

-- each operation is legal at the slots that those before it leave
abbrev pub AreLegalOps : State → Contents → List Op → Type 0
AreLegalOps state contents [] = Unit {0}
AreLegalOps state contents (op ∷ ops) = IsLegal state contents op × AreLegalOps (after (length contents.slots) state op.client op.call) (applied contents op) ops

-- Operations that are legal one after the other are, slots dropped, a legal history, and their fold represents the state after it.
abbrev pub OpsAreHistory : Type 0
OpsAreHistory = (contents : Contents) (state : State) (ops : List Op) → StandsFor contents state → AreLegalOps state contents ops
    → IsLegalHistory (length contents.slots) state (map numbered_of ops)
    × StandsFor (ran contents ops) (state_after (length contents.slots) state (map numbered_of ops))
    × (length (ran contents ops).slots ≡ length contents.slots)
