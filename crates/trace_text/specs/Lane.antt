-- A lane: its rows, read one after the other.
use Rattle.std.specs.Prelude.{ℕ, ◌^◌, ◌<◌, Bool, true, not, List, [], ◌∷◌, ◌++◌, length, Option, Some, IfSome, Result, Ok, Err}
use Rattle.std.specs.List.{list_all}
use Rattle.std.specs.Option.{option_map_or}
use Rattle.serde_json.specs.Data.{Data}
use Rattle.pool_law.specs.declared.command.Command.{Command}
use Rattle.pool_law.specs.declared.command.Command.TheVariants.{Recv}
use Rattle.pool_law.specs.Legal.{is_named, new_name}
use Rattle.trace_text.specs.declared.TraceNo.{TraceNo}
use Rattle.trace_text.specs.declared.TraceNo.TheVariants.{Shape}
use Rattle.trace_text.specs.Items.{◌>>=◌, only_if, array_in}
use Rattle.trace_text.specs.Names.{Mentions}
use Rattle.trace_text.specs.Words.{command_in}

-- a lane as far as it is read: the names that it has mentioned, and its commands
pub record LaneRead : Type 0 where
  pub names : Mentions
  pub commands : List Command

abbrev pub nothing_read : LaneRead
nothing_read = record { names = []; commands = [] }

-- whether a name is the new name of none of these
abbrev pub is_new : ℕ → List Command → Bool
is_new name earlier = list_all (λ c. not (is_named name (new_name c))) earlier

-- whether a command may follow these: what a `recv` brings is new
abbrev pub may_follow : List Command → Command → Bool
may_follow earlier (Recv fresh lane) = is_new fresh earlier
may_follow earlier _ = true

-- the lane with one more command, and the names up to and with it
abbrev pub with_command : LaneRead → Mentions → Command → LaneRead
with_command read names command = record { names = names; commands = read.commands ++ command ∷ [] }

-- the lane with one more row, if that is a command there
unfoldable pub with_row : ℕ → LaneRead → Data → Option LaneRead
with_row lanes read d = do
  next ← command_in lanes read.names d
  command ← only_if (may_follow read.commands) next.0
  Some (with_command read next.1 command)

-- the commands of this lane once these rows are read too, or the line of the first that is none
abbrev pub commands_after : ℕ → ℕ → LaneRead → List Data → Result (List Command) TraceNo
commands_after lanes lane read [] = Ok read.commands
commands_after lanes lane read (d ∷ ds) =
    option_map_or (λ next. commands_after lanes lane next ds) (with_row lanes read d)
    (Err (Shape lane (length read.commands)))

-- a lane of so few rows that its lines and its names have numbers of 32 bits
abbrev pub HasFewRows : Data → Type 0
HasFewRows d = IfSome (array_in d) (λ rows. length rows < 2 ^ 25)

-- the commands of a lane among so many; what is no array is at fault at its line 0
unfoldable pub lane_in : ℕ → ℕ → Data → Result (List Command) TraceNo
lane_in lanes lane d =
    option_map_or (commands_after lanes lane nothing_read) (array_in d) (Err (Shape lane 0))
