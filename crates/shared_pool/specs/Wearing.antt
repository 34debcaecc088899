-- When a place is worn out, and which pool has none that is.
use Rattle.std.specs.Prelude.{◌≡◌, ℕ, ◌*◌, ◌<◌, List}
use Rattle.pool_law.specs.declared.note.Noted.{Noted}
use Rattle.pool_law.specs.declared.note.Object.TheVariants.{Root}
use Rattle.pool_law.specs.Roots.{RootPlace}
use Rattle.history_laws.specs.Histories.{IsPlaceAfter}
use Rattle.pool_table.specs.declared.views.Layout.{Layout}
use Rattle.shared_pool.specs.declared.seat.PoolSeat.{PoolSeat}
use Rattle.pool_table.specs.Learned.{Enters}
use Rattle.shared_pool.specs.SeatViews.{view_of}
use Rattle.shared_pool.specs.RootPlaces.{last_generation}
use Rattle.shared_pool.specs.Standing.{HomeStands}
use Rattle.shared_pool.specs.declared.home.Home.{Home}
use Rattle.shared_pool.specs.declared.pool.SharedPool.{SharedPool}

-- all seats together have fewer turns than a place has names for its roots
abbrev pub IsShort : Layout → Type 0
IsShort layout = layout.shape.lanes * layout.turns < last_generation

-- the seat was in the section of a root place, and learned its history, by which the root that
-- was born there last has the last name
pub record FoundWorn (pool : SharedPool) (place : ℕ) (seat : PoolSeat) : Type 0 where
  pub history : List Noted
  pub home : Home
  pub learned :
      Enters HomeStands pool.table.layout (Root place) (view_of seat) history home
  pub state : RootPlace
  pub told : IsPlaceAfter place history state
  pub worn : state.generation ≡ last_generation
