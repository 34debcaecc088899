-- The pool's name stands for the new pool.
use Rattle.std.proofs.Common.{Some}
use Rattle.buffer_pool.proofs.working.open_in_threads.Given as goal

abbrev pub ghosts-work_as : goal.ghosts-work_as
ghosts-work_as g a = record { pool = Some a.shared }
