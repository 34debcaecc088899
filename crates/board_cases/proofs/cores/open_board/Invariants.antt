use Rattle.board_cases.proofs.cores.open_board.Given as goal

abbrev pub ghost-new : goal.ghost-new
ghost-new g a = g.own
