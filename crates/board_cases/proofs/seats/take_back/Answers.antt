use Rattle.board_cases.proofs.BoardSeats.{joined_counts, back_stays, back_turns, back_used}
use Rattle.board_cases.proofs.seats.take_back.Goals as goal

pub release-requires-clause-counts : goal.release-requires-clause-counts
release-requires-clause-counts g c =
    joined_counts c.args.seat.now c.args.other c.join.new.seat c.join.ensures.joined c.requires.can.counts

pub returns-clause-stays : goal.returns-clause-stays
returns-clause-stays g c =
    back_stays c.args.seat.now c.args.other c.join.new.seat c.join.ensures.joined c.args.board.now c.release.new.seat
    c.requires.can c.requires.other c.in-Kept.ensures.released c.in-Kept.ensures.own

pub returns-clause-turns : goal.returns-clause-turns
returns-clause-turns g c =
    back_turns c.args.seat.now c.args.other c.join.new.seat c.join.ensures.joined c.args.board.now c.release.new.seat
    c.requires.can c.requires.other c.in-Kept.ensures.released

pub returns-clause-used : goal.returns-clause-used
returns-clause-used g c =
    back_used c.args.seat.now c.args.other c.join.new.seat c.join.ensures.joined c.args.board.now c.release.new.seat
    c.requires.can c.requires.other c.in-Kept.ensures.released
