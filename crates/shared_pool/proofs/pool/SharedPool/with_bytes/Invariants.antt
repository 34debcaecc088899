use Rattle.pool_law.specs.Roots.{bytes_at}
use Rattle.pool_law.specs.declared.note.Did.{Did}
use Rattle.shared_pool.specs.PlaceStanding.{home_bytes}
use Rattle.shared_pool.specs.RootNotes.{access}
use Rattle.shared_pool.proofs.pool.SharedPool.with_bytes.Given as goal

abbrev pub ghosts-note_shown : goal.ghosts-note_shown
ghosts-note_shown g a =
    record { note = access a.root (Did.Get a.offset (bytes_at (home_bytes a.section.home) a.offset a.len)) }
