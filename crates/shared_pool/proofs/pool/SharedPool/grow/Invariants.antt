use Rattle.shared_pool.proofs.pool.SharedPool.grow.Given as goal

abbrev pub ghosts-note : goal.ghosts-note
ghosts-note a = record { note = a.noted.now }
