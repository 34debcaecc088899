use Rattle.share_run.proofs.play.play_in_pool.Given as goal

abbrev pub ghost-board_of : goal.ghost-board_of
ghost-board_of g a = a.pool.now
