use Rattle.board_cases.proofs.BoardSeats.{kept_view, marked, turn_left, taken_used, home_core}
use Rattle.board_cases.proofs.seats.let_go.Goals as goal

pub returns-in-Kept-clause-goes : goal.returns-in-Kept-clause-goes
returns-in-Kept-clause-goes c =
    let view = kept_view c.args.board.now c.args.seat.now c.release.new.seat c.requires.can c.in-Kept.ensures.released
    in
    record { own = c.in-Kept.ensures.own; used_up = view.spent_is }

pub take_core-requires-clause-mark : goal.take_core-requires-clause-mark
take_core-requires-clause-mark c =
    marked c.args.board.now c.args.seat.now c.release.new.seat c.requires.can c.in-Ended.mark
    c.in-Ended.ensures.released

pub take_core-requires-clause-turn : goal.take_core-requires-clause-turn
take_core-requires-clause-turn c =
    turn_left c.args.board.now c.args.seat.now c.release.new.seat c.requires.can c.in-Ended.mark
    c.in-Ended.ensures.released

pub returns-in-Ended-clause-goes : goal.returns-in-Ended-clause-goes
returns-in-Ended-clause-goes c =
    let took = c.take_core in
    record {
      own = took.ensures.own;
      used_up =
          taken_used c.args.board.now c.args.seat.now c.release.new.seat c.requires.can c.in-Ended.mark
          c.in-Ended.ensures.released took.new.seat took.ensures.took;
    }

pub returns-in-Ended-clause-core : goal.returns-in-Ended-clause-core
returns-in-Ended-clause-core c =
    home_core c.args.board.now c.args.pool.now c.in-Ended.mark.composite c.take_core.result c.requires.pool
    c.take_core.ensures.core
