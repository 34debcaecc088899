-- What the pointer that C holds for a parcel owns.
use Rattle.std.specs.Prelude.{Option, None, Some}
use base.Fml.{Fml, ftrue}
use denote.RawPtr.{Ptr}
use Rattle.std_heap.specs.contracts.GlobalAllocator.TheImpl.{ghosts}
use Rattle.std_alloc.specs.Box.Ownership.{box_owns}
use Rattle.pool_c.specs.contracts.carried.Carried.{the_row}
use Rattle.pool_c.specs.declared.carried.Carried.{Carried}
use Rattle.pool_c.specs.Slots.{heap}

-- the box that the pointer stands for, if any
abbrev pub parcel_slot_owns : Ptr → Option Carried → Fml
parcel_slot_owns at None = ftrue
parcel_slot_owns at (Some carried) = box_owns (ghosts.dealloc_token heap) the_row at carried
