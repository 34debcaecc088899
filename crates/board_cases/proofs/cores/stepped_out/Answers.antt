use Rattle.board_cases.proofs.cores.stepped_out.Goals as goal

pub returns-in-Finished : goal.returns-in-Finished
returns-in-Finished g c = c.into_seat.ensures.emptied c.args.pool.now c.in-Finished.ensures.core
