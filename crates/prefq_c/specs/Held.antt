-- What a handle owns: a value in a block of the heap, or nothing. (this project)
use Rattle.std.specs.Prelude.{Option, None, Some}
use base.Fml.{Fml, ftrue}
use denote.RattleType.{RattleType}
use denote.RawPtr.{Ptr}
use Rattle.std.specs.contracts.impls.GlobalAllocator.TheImpl.{ghosts}
use Rattle.std.specs.declared.alloc.Global.{Global}
use Rattle.std_alloc.specs.Box.Ownership.{box_owns}

-- the allocator; it has no state
abbrev pub heap : Global
heap = record { memory = record { seal = tt } }

abbrev pub held : (R : RattleType) → Ptr → Option R.Denot → Fml
held R at None = ftrue
held R at (Some value) = box_owns (ghosts.dealloc_token heap) R at value
