-- A letter in a seat of its own.
use Rattle.std.specs.Prelude.{IfSome, None, unwrap_or}
use Rattle.step_law.specs.declared.Told.{Ghosts}
use Rattle.atomic_table.specs.Seated.{TableId}
use Rattle.pool_law.specs.declared.note.Noted.{Noted}
use Rattle.pool_law.specs.Views.{IsView}
use Rattle.pool_table.specs.declared.views.Letter.{Letter}
use Rattle.pool_table.specs.declared.views.SeatView.{SeatView}
use Rattle.pool_table.specs.declared.table.PoolSeat.{PoolSeat}
use Rattle.pool_table.specs.Letters.{first_letter, letter_view}
use Rattle.pool_table.specs.Seats.{view_of, HasView}
use Rattle.shared_pool.specs.declared.home.Home.{Home}

-- what a contract sees of a letter on its way: its pool's table, and the letter
pub record PostedLetter : Type 0 where
  pub table : TableId
  pub letter : Letter

abbrev pub no_letter : Letter
no_letter = record { from = 0; to = 0; number = 0; parcel = record { view = None } }

-- the letter of a view that has one
abbrev pub letter_of : SeatView → Letter
letter_of v = unwrap_or (first_letter v.letters) no_letter

module _ {G : Ghosts Home Noted} where
  -- the seat holds one letter, with no part, section, move or turn; its parcel's view is one
  pub record IsLetterAlone (s : PoolSeat Home G) : Type 0 where
    pub alone : HasView s (letter_view (view_of s).setting (letter_of (view_of s)))
    pub view : IfSome (letter_of (view_of s)).parcel.view IsView

  -- what is seen of it
  abbrev pub posted_in : PoolSeat Home G → PostedLetter
  posted_in s = record { table = s.seat.table_id; letter = letter_of (view_of s) }
