-- The commands of a lane that allocates, releases and sends to its neighbour.
use Rattle.std.specs.Prelude.{◌==◌, Bool, true, false}
use Rattle.pool_law.specs.declared.command.Command.{Command}

-- a command allocates or releases, or sends to lane 1
abbrev pub is_plain : Command → Bool
is_plain (Command.Alloc name size) = true
is_plain (Command.Release name) = true
is_plain (Command.Send name lane) = lane == 1
is_plain _ = false
