-- What a contract sees of a table and of its seats.
use Rattle.std.specs.Prelude.{◌≡◌, ℕ, ◌+◌, ◌<◌, []}
use Rattle.board_table.specs.declared.views.BoardView.{BoardView}
use Rattle.board_table.specs.declared.views.Opening.{Opening}
use Rattle.board_table.specs.declared.table.BoardTable.{BoardTable}
use Rattle.board_table.specs.declared.table.BoardSeat.{BoardSeat}
use Rattle.board_table.specs.Views.{stake_of}
use Rattle.board_table.specs.Steps.{IsFree}

module _ {H T : Type 0} where
  -- what the table was made for
  abbrev pub opening_of : BoardTable H T → Opening T
  opening_of t = t.table.shared.key

  -- the seat is one of this table's
  abbrev pub IsSeatOf : BoardTable H T → BoardSeat H → Type 0
  IsSeatOf t s = s.seat.table_id ≡ t.table.shared.table_id

module _ {H : Type 0} where
  -- it is the same seat, whatever it knows now
  abbrev pub SameSeat : BoardSeat H → BoardSeat H → Type 0
  SameSeat s t = (t.seat.table_id ≡ s.seat.table_id) × (t.seat.id ≡ s.seat.id)

  -- what the seat knows
  abbrev pub view_of : BoardSeat H → BoardView
  view_of s = s.seat.me.0

  -- it is in no section
  abbrev pub IsOutside : BoardSeat H → Type 0
  IsOutside s = IsFree s.seat.me

  -- it knows this, and holds no home value
  abbrev pub HasView : BoardSeat H → BoardView → Type 0
  HasView s v = s.seat.me ≡ (v, [])

-- the view counts composite k
abbrev pub Counts : ℕ → BoardView → Type 0
Counts k v = 0 < (stake_of k v).counts

-- the view has the end mark of composite k
abbrev pub HasMark : ℕ → BoardView → Type 0
HasMark k v = 0 < (stake_of k v).marks

-- the view may be in the section of composite k
abbrev pub MayEnter : ℕ → BoardView → Type 0
MayEnter k v = 0 < (stake_of k v).counts + (stake_of k v).marks
