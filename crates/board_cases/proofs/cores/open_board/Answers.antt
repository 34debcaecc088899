use Rattle.board_cases.proofs.Texts.{shows}
use Rattle.board_cases.proofs.cores.open_board.Goals as goal

pub returns-clause-shows : goal.returns-clause-shows
returns-clause-shows g c =
    let cores = c.requires.1.1.1.1.1.1 in
    shows c.in-Ok.opened.0 g.own c.args.turns c.args.cores.items c.in-Ok.ensures.made c.requires.1.1.0 cores
