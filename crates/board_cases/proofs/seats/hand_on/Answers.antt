use Rattle.board_cases.proofs.BoardSeats.{counts_more, turns_more, hand_stays, hand_can, hand_used}
use Rattle.board_cases.proofs.seats.hand_on.Goals as goal

pub hand-requires-clause-counts : goal.hand-requires-clause-counts
hand-requires-clause-counts c =
    counts_more c.args.board.now c.args.turns c.args.seat.now c.retain.new.seat c.requires c.retain.ensures.retained

pub hand-requires-clause-turns : goal.hand-requires-clause-turns
hand-requires-clause-turns c =
    turns_more c.args.board.now c.args.turns c.args.seat.now c.retain.new.seat c.requires c.retain.ensures.retained

pub returns-clause-stays : goal.returns-clause-stays
returns-clause-stays c =
    let hand = c.hand in
    hand_stays c.args.board.now c.args.turns c.args.seat.now c.retain.new.seat c.requires c.retain.ensures.retained
    hand.new.seat hand.result hand.ensures.left hand.ensures.handed hand.ensures.own

pub returns-clause-handed : goal.returns-clause-handed
returns-clause-handed c =
    let hand = c.hand in
    hand_can c.args.board.now c.args.turns c.args.seat.now c.retain.new.seat c.requires c.retain.ensures.retained
    hand.new.seat hand.result hand.ensures.left hand.ensures.handed hand.ensures.made

pub returns-clause-used : goal.returns-clause-used
returns-clause-used c =
    let hand = c.hand in
    hand_used c.args.board.now c.args.turns c.args.seat.now c.retain.new.seat c.requires c.retain.ensures.retained
    hand.new.seat hand.result hand.ensures.left hand.ensures.handed
