-- What a run that is read from a text has to do with it.
use Rattle.std.specs.Prelude.{◌≡◌, true, length, map}
use Rattle.pool_law.specs.declared.command.Trace.{Trace}
use Rattle.pool_law.specs.declared.run.Shape.{Shape}
use Rattle.pool_law.specs.declared.run.Run.{Run}
use Rattle.pool_law.specs.Text.{Text, text_of}

-- a run of this trace and shape, with this text, history and all, in which each lane has as many replies as
-- commands: the text would leave out more
pub record Reads (asked : Trace) (measures : Shape) (written : Text) (run : Run) : Type 0 where
  pub trace : run.trace ≡ asked
  pub shape : run.shape ≡ measures
  pub text : text_of run true ≡ written
  pub answered : map (λ log. length log.replies) run.logs ≡ map length asked.lanes
