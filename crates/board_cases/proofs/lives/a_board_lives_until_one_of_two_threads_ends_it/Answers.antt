use Rattle.std.specs.Prelude.{Some}
use Rattle.std.proofs.lemmas.List.Elements.{All-pop}
use Rattle.shared_composite.specs.Boards.{view_of}
use Rattle.shared_composite.specs.Cores.{IsUnderway}
use Rattle.board_cases.proofs.Texts.{left_cores}
use Rattle.board_cases.proofs.lives.a_board_lives_until_one_of_two_threads_ends_it.Goals as goal

pub stepped_out-second-requires : goal.stepped_out-second-requires
stepped_out-second-requires g c =
    let pool = c.in_ok-pool.field-0.pool in let board = c.open_board-board.result.0 in
    let cores = c.close-cores.result.items in
    (All-pop (IsUnderway pool) cores c.pop.new.self.items (Some c.in-Some-pop.left) c.in-Some-pop.ensures.items
    (left_cores board pool (view_of c.join_one.new.seat) cores c.open_board-board.ensures.shows.pool_is
    c.close-cores.ensures)).1
