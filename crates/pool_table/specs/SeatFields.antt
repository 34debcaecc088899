-- What a seat's fields are to its view.
use Rattle.std.specs.Prelude.{◌≡◌, ℕ, List, Option}
use Rattle.pool_table.specs.declared.views.Letter.{Letter}
use Rattle.pool_table.specs.declared.views.SeatView.{SeatView}
use Rattle.pool_table.specs.Letters.{first_letter, CountsSent}

-- the number, the first letter, and how many letters were sent to each lane are those of the view
pub record IsSeatWith
    (number : Option ℕ) (letter : Option Letter) (sent : List ℕ) (v : SeatView) : Type 0 where
  pub numbered : v.own.number ≡ number
  pub lettered : first_letter v.letters ≡ letter
  pub counted : CountsSent v.own sent
