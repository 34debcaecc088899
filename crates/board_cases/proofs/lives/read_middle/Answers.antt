use Rattle.board_cases.proofs.BoardSeats.{section_stays}
use Rattle.board_cases.proofs.lives.read_middle.Goals as goal

pub returns-clause-stays : goal.returns-clause-stays
returns-clause-stays g c =
    (section_stays c.args.board.now c.args.seat.now c.read.new.seat c.requires.can c.in-Ok.ensures.own
    c.in-Ok.ensures.read.section.view).0

pub returns-clause-used : goal.returns-clause-used
returns-clause-used g c =
    (section_stays c.args.board.now c.args.seat.now c.read.new.seat c.requires.can c.in-Ok.ensures.own
    c.in-Ok.ensures.read.section.view).1
