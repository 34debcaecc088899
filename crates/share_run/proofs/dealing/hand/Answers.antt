use Rattle.share_run.proofs.DealLaws.{hand_chief, hand_deals, hand_seat}
use Rattle.share_run.proofs.dealing.hand.Goals as goal

pub returns-clause-chief : goal.returns-clause-chief
returns-clause-chief c =
    hand_chief c.args.board.now c.args.composites c.args.k c.args.turns c.args.chief.now c.retain.new.seat
    c.hand.new.seat c.hand.result c.requires.chief c.requires.k c.requires.turns c.requires.moves c.hand.ensures.own
    c.hand.ensures.made c.retain.ensures.retained c.hand.ensures.left c.hand.ensures.handed

pub returns-clause-seat : goal.returns-clause-seat
returns-clause-seat c =
    hand_seat c.args.board.now c.args.composites c.args.k c.args.turns c.args.chief.now c.retain.new.seat
    c.hand.new.seat c.hand.result c.requires.chief c.requires.k c.requires.turns c.requires.moves c.hand.ensures.own
    c.hand.ensures.made c.retain.ensures.retained c.hand.ensures.left c.hand.ensures.handed

pub returns-clause-deals : goal.returns-clause-deals
returns-clause-deals c =
    hand_deals c.args.board.now c.args.composites c.args.k c.args.turns c.args.chief.now c.retain.new.seat
    c.hand.new.seat c.hand.result c.requires.chief c.requires.k c.requires.turns c.requires.moves c.hand.ensures.own
    c.hand.ensures.made c.retain.ensures.retained c.hand.ensures.left c.hand.ensures.handed
