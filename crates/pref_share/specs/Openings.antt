-- What a board opens with, and the histories that may follow. (this project)
use Rattle.std.specs.Prelude.{ℕ, ◌≤◌, List, map, length, Option}
use Rattle.pref_core.specs.Rows.{Row}
use Rattle.pref_core.specs.declared.call.Op.{Op}
use Rattle.pref_core.specs.Limits.{Limits, AreAllowed}
use Rattle.pref_core.specs.State.{State, opening, calls_of}
use Rattle.pref_core.specs.Slots.{Contents, opening_contents}
use Rattle.pref_core.specs.Operations.{ran, IsLegal}
use Rattle.pref_core.specs.History.{Numbered, IsLegalHistory, state_after, numbered_of, AreLegalOps}

-- how large the table is, and the rows that it opens with
pub record Opening : Type 0 where
  pub limits : Limits
  pub rows : List Row

-- the store and the sequential table, as they are opened
abbrev pub first_contents : Opening → Contents
first_contents o = opening_contents o.limits o.rows

abbrev pub first_state : Opening → State
first_state o = opening o.limits.clients o.rows

-- the calls of these operations, slots left out
abbrev pub history_of : List Op → List Numbered
history_of ops = map numbered_of ops

-- the store after these operations
abbrev pub contents_at : Opening → List Op → Contents
contents_at o ops = ran (first_contents o) ops

-- the sequential table after their calls
abbrev pub state_at : Opening → List Op → State
state_at o ops = state_after o.limits.capacity (first_state o) (history_of ops)

-- The opening is within its limits, and each operation is legal after those before it.
pub record IsLegalFrom (o : Opening) (ops : List Op) : Type 0 where
  pub allowed : AreAllowed o.limits
  pub fits : length o.rows ≤ o.limits.capacity
  pub each : AreLegalOps (first_state o) (first_contents o) ops

-- the operation may come next
abbrev pub MayFollow : Opening → List Op → Op → Type 0
MayFollow o ops op = IsLegal (state_at o ops) (contents_at o ops) op

-- how many calls of this client there are
abbrev pub calls_at : Opening → List Op → ℕ → Option ℕ
calls_at o ops client = calls_of (state_at o ops) client

-- The calls of legal operations are a legal history of the sequential table.
abbrev pub LegalIsHistory : Type 0
LegalIsHistory = (o : Opening) (ops : List Op) → IsLegalFrom o ops → IsLegalHistory o.limits.capacity (first_state o) (history_of ops)
