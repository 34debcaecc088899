-- A seat of a board that goes on from call to call.
use Rattle.std.proofs.Common.{◌≡◌, ℕ, ◌+◌, ◌≤◌, ◌∙◌, arith}
use Rattle.shared_composite.specs.declared.board.Board.{Board}
use Rattle.shared_composite.specs.declared.board.BoardSeat.{BoardSeat}
use Rattle.board_cases.specs.Seats.{Can, Stays, Goes, used}

module _ (board : Board) where
  -- what is left serves the next call
  pub can_after : (m t a b n u : ℕ) (old new : BoardSeat) → Can board m t old → Stays board a b old new → n + a ≤ m
      → u + b ≤ t → Can board n u new
  can_after m t a b n u old new can stays le lf = record {
    own = stays.own;
    counts = stays.counts;
    moves_left = (let x = can.moves_left in let y = stays.moves_left in omega (arith, x, y, le));
    turns_left = (let x = can.turns_left in let y = stays.turns_left in omega (arith, x, y, lf));
  }

  pub can_less : (m t n u : ℕ) (seat : BoardSeat) → Can board m t seat → n ≤ m → u ≤ t → Can board n u seat
  can_less m t n u seat can le lf = record {
    own = can.own;
    counts = can.counts;
    moves_left = (let x = can.moves_left in omega (arith, x, le));
    turns_left = (let x = can.turns_left in omega (arith, x, lf));
  }

  pub goes_from : (old mid new : BoardSeat) → used mid ≡ used old → Goes board mid new → Goes board old new
  goes_from old mid new same goes = record { own = goes.own; used_up = goes.used_up ∙ same }
