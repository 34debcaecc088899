-- What a pointer that C holds owns.
use Rattle.std.specs.Prelude.{Option, None, Some}
use base.Fml.{Fml, ftrue}
use denote.RawPtr.{Ptr}
use Rattle.std_heap.specs.declared.Global.{Global}
use Rattle.std_heap.specs.contracts.GlobalAllocator.TheImpl.{ghosts}
use Rattle.std_alloc.specs.Box.Ownership.{box_owns}
use Rattle.pool_c.specs.contracts.held.Held.{the_row}
use Rattle.pool_c.specs.Holding.{Holding}

-- the heap of the C library, as an allocator: what frees a block of it
abbrev pub heap : Global
heap = record { memory = record { seal = tt } }

-- the box that the pointer stands for, if any
abbrev pub slot_owns : Ptr → Option Holding → Fml
slot_owns at None = ftrue
slot_owns at (Some held) = box_owns (ghosts.dealloc_token heap) the_row at held
