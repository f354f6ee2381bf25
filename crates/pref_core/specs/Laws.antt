-- Laws of the sequential table and of the blocks. (this project)
use Rattle.std.specs.Prelude.{◌≡◌, ℕ, zero, suc, ◌≤◌, List, [], ◌++◌, length, false, Option}
use Rattle.pref_core.specs.declared.call.Call.{Call}
use Rattle.pref_core.specs.Limits.{Limits, AreAllowed, blocks}
use Rattle.pref_core.specs.State.{State, needed, begins_row, committed}
use Rattle.pref_core.specs.declared.store.version.Version.{Version}
use Rattle.pref_core.specs.Slots.{Contents, StandsFor, block_of}
use Rattle.pref_core.specs.History.{Numbered, IsLegalHistory, state_after}

-- A call that begins no row, as a delete, never makes `needed` larger.
abbrev pub EndsNeedNoMore : Type 0
EndsNeedNoMore = (state : State) (call : Call) → begins_row call ≡ false → length (needed (committed call state)) ≤ length (needed state)

-- After a legal history `needed` is within the capacity, where it was so before.
abbrev pub NeededFits : Type 0
NeededFits = (capacity : ℕ) (state : State) (history : List Numbered) → length (needed state) ≤ capacity → IsLegalHistory capacity state history → length (needed (state_after capacity state history)) ≤ capacity

-- .. and so it is in each state that slots represent: room is never less than nothing.
abbrev pub NeededFitsSlots : Type 0
NeededFitsSlots = (contents : Contents) (state : State) → StandsFor contents state → length (needed state) ≤ length contents.slots

-- the first n blocks, one after the other
abbrev pub first_blocks : ℕ → ℕ → List (Option Version) → List (Option Version)
first_blocks zero size slots = []
first_blocks (suc n) size slots = first_blocks n size slots ++ block_of n size slots

-- All blocks, one after the other, are the slots: each slot is in one.
abbrev pub BlocksAreTheSlots : Type 0
BlocksAreTheSlots = (limits : Limits) (slots : List (Option Version)) → AreAllowed limits → length slots ≡ limits.capacity → first_blocks (blocks limits) limits.block slots ≡ slots
