use Rattle.share_run.proofs.play.board_of.Given as goal

abbrev pub ghost-new : goal.ghost-new
ghost-new g a = g.here
