use Rattle.board_table.proofs.table.BoardTable.hand.Given as goal

abbrev pub ghosts-hand_seat : goal.ghosts-hand_seat
ghosts-hand_seat g a = record { composite = a.k; turns = a.turns }
