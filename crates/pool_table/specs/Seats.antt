-- What a contract sees of a seat.
use Rattle.std.specs.Prelude.{◌≡◌, []}
use Rattle.step_law.specs.declared.Told.{Ghosts}
use Rattle.pool_law.specs.declared.note.Noted.{Noted}
use Rattle.pool_table.specs.declared.views.SeatView.{SeatView}
use Rattle.pool_table.specs.declared.table.PoolTable.{PoolTable}
use Rattle.pool_table.specs.declared.table.PoolSeat.{PoolSeat}
use Rattle.pool_table.specs.Steps.{IsFree}

module _ {H : Type 0} {G : Ghosts H Noted} where
  -- the seat is one of this table's
  abbrev pub IsSeatOf : PoolTable H → PoolSeat H G → Type 0
  IsSeatOf t s = s.seat.table_id ≡ t.table.shared.table_id

  -- it is the same seat, whatever it knows now
  abbrev pub SameSeat : PoolSeat H G → PoolSeat H G → Type 0
  SameSeat s t = (t.seat.table_id ≡ s.seat.table_id) × (t.seat.id ≡ s.seat.id)

  -- what the seat knows
  abbrev pub view_of : PoolSeat H G → SeatView
  view_of s = s.seat.me.0

  -- it is in no section
  abbrev pub IsOutside : PoolSeat H G → Type 0
  IsOutside s = IsFree s.seat.me

  -- it knows this, and holds no home value
  abbrev pub HasView : PoolSeat H G → SeatView → Type 0
  HasView s v = s.seat.me ≡ (v, [])
