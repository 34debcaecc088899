use Rattle.pool_table.proofs.table.PoolTable.share.Given as goal

abbrev pub ghosts-share_seat : goal.ghosts-share_seat
ghosts-share_seat g a = record { moves = a.moves }
