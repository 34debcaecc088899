use Rattle.shared_pool.proofs.pool.SharedPool.pop_handle.Given as goal

abbrev pub ghosts-note : goal.ghosts-note
ghosts-note a = record { note = a.noted.now }
