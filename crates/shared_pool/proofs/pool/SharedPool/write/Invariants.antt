use Rattle.pool_law.specs.declared.note.Did.{Did}
use Rattle.shared_pool.specs.RootNotes.{access}
use Rattle.shared_pool.proofs.pool.SharedPool.write.Given as goal

abbrev pub ghosts-note_set : goal.ghosts-note_set
ghosts-note_set a = record { note = access a.root (Did.Set a.offset a.bytes.now) }
