-- What a seat of a board has of the board's first composite, and what it spent.
use Rattle.std.specs.Prelude.{◌≡◌, ℕ, ◌+◌, ◌≤◌}
use Rattle.board_table.specs.Seats.{Counts}
use Rattle.board_table.specs.Views.{spent}
use Rattle.shared_composite.specs.declared.board.Board.{Board}
use Rattle.shared_composite.specs.declared.board.BoardSeat.{BoardSeat}
use Rattle.shared_composite.specs.Boards.{IsSeatOf, view_of}

-- the seat counts the composite, and has so many moves and turns
pub record Can (board : Board) (moves turns : ℕ) (seat : BoardSeat) : Type 0 where
  pub own : IsSeatOf board seat
  pub counts : Counts 0 (view_of seat)
  pub moves_left : moves ≤ (view_of seat).moves
  pub turns_left : turns ≤ (view_of seat).turns

-- it counts it still, and spent at most so many moves and turns
pub record Stays (board : Board) (moves turns : ℕ) (old new : BoardSeat) : Type 0 where
  pub own : IsSeatOf board new
  pub counts : Counts 0 (view_of new)
  pub moves_left : (view_of old).moves ≤ (view_of new).moves + moves
  pub turns_left : (view_of old).turns ≤ (view_of new).turns + turns

-- the sections that the seat made, with the turns that it has left
abbrev pub used : BoardSeat → ℕ
used seat = spent (view_of seat)

-- it is the board's still, and each turn that it spent was a section
pub record Goes (board : Board) (old new : BoardSeat) : Type 0 where
  pub own : IsSeatOf board new
  pub used_up : used new ≡ used old
