use Rattle.board_cases.proofs.BoardSeats.{joined_used}
use Rattle.board_cases.proofs.races.join_one.Goals as goal

pub returns-clause-used : goal.returns-clause-used
returns-clause-used c = joined_used c.args.seat.now c.args.other c.join.new.seat c.join.ensures.joined
