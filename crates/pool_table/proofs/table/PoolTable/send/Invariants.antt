use Rattle.pool_table.proofs.table.PoolTable.send.Given as goal

abbrev pub ghosts-send_seat : goal.ghosts-send_seat
ghosts-send_seat g a = record { to = a.to; parcel = a.parcel }
