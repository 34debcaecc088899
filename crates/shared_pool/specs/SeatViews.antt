-- What a contract sees of a seat of a pool.
use Rattle.pool_table.specs.declared.views.SeatView.{SeatView}
use Rattle.pool_table.specs.declared.table.PoolTable.{PoolTable}
use Rattle.pool_table.specs.Seats as table
use Rattle.shared_pool.specs.declared.home.Home.{Home}
use Rattle.shared_pool.specs.declared.seat.PoolSeat.{PoolSeat}

-- what the seat knows
abbrev pub view_of : PoolSeat → SeatView
view_of s = table.view_of s.seat

-- the seat is one of this table's
abbrev pub IsSeatOf : PoolTable Home → PoolSeat → Type 0
IsSeatOf t s = table.IsSeatOf t s.seat

-- it is the same seat, whatever it knows now
abbrev pub SameSeat : PoolSeat → PoolSeat → Type 0
SameSeat old new = table.SameSeat old.seat new.seat

-- it is in no section
abbrev pub IsOutside : PoolSeat → Type 0
IsOutside s = table.IsOutside s.seat

-- it knows this, and holds no home value
abbrev pub HasView : PoolSeat → SeatView → Type 0
HasView s v = table.HasView s.seat v
