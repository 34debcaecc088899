-- What a share has: moves, and nothing else.
use Rattle.std.specs.Prelude.{◌≡◌, ℕ}
use Rattle.step_law.specs.declared.Told.{Ghosts}
use Rattle.pool_law.specs.declared.note.Noted.{Noted}
use Rattle.pool_table.specs.declared.table.PoolSeat.{PoolSeat}
use Rattle.pool_table.specs.Seats.{view_of, IsOutside}
use Rattle.pool_table.specs.Steps.{IsShare}
use Rattle.shared_pool.specs.declared.home.Home.{Home}

-- the seat has so many moves, and nothing else
pub record HasMoves {G : Ghosts Home Noted} (n : ℕ) (s : PoolSeat Home G) : Type 0 where
  pub outside : IsOutside s
  pub share : IsShare (view_of s)
  pub moves : (view_of s).moves ≡ n
