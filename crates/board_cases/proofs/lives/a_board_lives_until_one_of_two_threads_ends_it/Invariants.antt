use Rattle.board_cases.proofs.lives.a_board_lives_until_one_of_two_threads_ends_it.Given as goal

abbrev pub ghost-open_board : goal.ghost-open_board
ghost-open_board g a = a._pool.now
