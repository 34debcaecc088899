use Rattle.pool_law.specs.Roots.{bytes_at}
use Rattle.pool_law.specs.declared.note.Did.{Did}
use Rattle.shared_pool.specs.PlaceStanding.{home_bytes}
use Rattle.shared_pool.specs.RootNotes.{access}
use Rattle.shared_pool.proofs.pool.SharedPool.with_bytes_mut.Given as goal

abbrev pub ghosts-note_left : goal.ghosts-note_left
ghosts-note_left g a =
    record { note = access a.root (Did.Set a.offset (bytes_at (home_bytes a.section.home) a.offset a.len)) }
