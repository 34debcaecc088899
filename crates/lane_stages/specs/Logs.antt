-- What a step wrote into a log, and how much one step may.
use Rattle.std.specs.Prelude.{◌≡◌, List, ◌++◌, vec_capacity}
use Rattle.std.specs.Global.{Vec}
use Rattle.pool_law.specs.declared.note.Note.{Note}

-- the log has these notes more, in the room that it had
pub record HasWritten (old new : Vec Note) (more : List Note) : Type 0 where
  pub items : new.items ≡ old.items ++ more
  pub room : vec_capacity new ≡ vec_capacity old
