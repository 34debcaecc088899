use Rattle.shared_pool.proofs.queue.ends.Given as goal

abbrev pub ghosts-cut : goal.ghosts-cut
ghosts-cut a = record { table = a.seat.now.seat.table_id; sender = a.from; receiver = a.to; room = a.room }
