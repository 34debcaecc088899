-- How a bin keeps its handles.
use Rattle.std.specs.Prelude.{◌≡◌, ℕ, ◌≤◌, List, nat_eq, IsTrue}
use Rattle.std.specs.List.{IsDistinct, list_all}
use Rattle.handle_bin.specs.Bins.{HandleValue, BinValue, places_in, is_of}
use Rattle.handle_bin.specs.declared.bin.Bin.TheInside.{Inside}

-- the handles are of a lane, and no two of one place
pub record AreHandlesOf (lane handles : ℕ) (hs : List HandleValue) : Type 0 where
  pub own : IsTrue (list_all (is_of lane handles) hs)
  pub distinct : IsDistinct nat_eq (places_in hs)

abbrev pub bin_in : Inside → BinValue
bin_in b = record { lane = b.lane; handles = b.handles; ready = b.ready.items }

pub record IsBin (b : Inside) : Type 0 where
  pub some_there : 1 ≤ b.handles
  pub capacity : b.ready.capacity ≡ b.handles
  pub ready : AreHandlesOf b.lane b.handles b.ready.items
