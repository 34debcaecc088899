use Rattle.board_cases.proofs.meeting.a_read_finds_another_seat_at_a_component.Given as goal

abbrev pub ghost-open_board : goal.ghost-open_board
ghost-open_board g a = a._pool.now
