use Rattle.pool_law.specs.declared.note.Did.{Did}
use Rattle.shared_pool.specs.RootNotes.{access}
use Rattle.shared_pool.proofs.pool.SharedPool.read.Given as goal

abbrev pub ghosts-note_get : goal.ghosts-note_get
ghosts-note_get a = record { note = access a.root (Did.Get a.offset a.bytes.now) }
