-- The pool's name stands for the new pool.
use Rattle.std.proofs.Common.{Some}
use Rattle.buffer_pool.proofs.opening.open.Given as goal

abbrev pub ghosts-serve_as : goal.ghosts-serve_as
ghosts-serve_as g a = record { pool = Some a.shared }
