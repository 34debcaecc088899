-- The memory that a close takes first. No public clause cites this module.
use Rattle.std.specs.Prelude.{◌≡◌, ◌*◌, ◌≤◌, [], length, All, vec_capacity}
use Rattle.std.specs.Global.{Vec}
use Rattle.pool_law.specs.declared.report.Access.{Access}
use Rattle.pool_law.specs.declared.run.Shape.{Shape}
use Rattle.shared_pool.specs.declared.spares.Spares.{Spares}

-- an empty vector with room for the accesses that are kept of one root
pub record IsSpare (v : Vec Access) : Type 0 where
  pub empty : v.items ≡ []
  pub room : 4 ≤ vec_capacity v

-- the memory for what the close of a pool of this shape tells
pub record AreSparesFor (room : Spares) (shape : Shape) : Type 0 where
  pub chunks : (room.chunks.items ≡ []) × (shape.arenas * shape.chunks ≤ vec_capacity room.chunks)
  pub live : (room.live.items ≡ []) × (shape.lanes * shape.handles ≤ vec_capacity room.live)
  pub records : All IsSpare room.records.items
      × (length room.records.items ≡ shape.lanes * shape.handles)
