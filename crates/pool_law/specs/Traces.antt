-- What a trace may be, before its lanes run.
use Rattle.std.specs.Prelude.{◌≡◌, ℕ, List, length}
use Rattle.std.specs.List.{sum_by}
use Rattle.pool_law.specs.declared.command.Command.{Command}
use Rattle.pool_law.specs.declared.run.Shape.{Shape}
use Rattle.pool_law.specs.Legal.{AreCommands}
use Rattle.pool_law.specs.Logs.{of_lane}

-- the most lanes of a trace
abbrev pub lane_limit : ℕ
lane_limit = 16

-- the most commands of all lanes together
abbrev pub command_limit : ℕ
command_limit = 65536

-- the most bytes that the commands ask to see, together
abbrev pub byte_limit : ℕ
byte_limit = 67108864

-- the bytes that a command asks to see
abbrev pub bytes_asked_by : Command → ℕ
bytes_asked_by (Command.Get name at len tries) = len
bytes_asked_by (Command.Read name len) = len
bytes_asked_by (Command.Alloc name size) = 0
bytes_asked_by (Command.Set name at bytes tries) = 0
bytes_asked_by (Command.Write name bytes) = 0
bytes_asked_by (Command.Slice fresh name at len retained) = 0
bytes_asked_by (Command.Dup fresh name) = 0
bytes_asked_by (Command.Retain name) = 0
bytes_asked_by (Command.Release name) = 0
bytes_asked_by (Command.Refcnt name) = 0
bytes_asked_by (Command.Touch name) = 0
bytes_asked_by (Command.Forget name) = 0
bytes_asked_by (Command.Send name lane) = 0
bytes_asked_by (Command.Recv fresh lane) = 0
bytes_asked_by (Command.Compose fresh names) = 0
bytes_asked_by (Command.Add whole name) = 0
bytes_asked_by (Command.Capacity name size) = 0

-- the bytes that the commands of all lanes ask to see
abbrev pub bytes_asked : List (List Command) → ℕ
bytes_asked lanes = sum_by (sum_by bytes_asked_by) lanes

-- in a run of so many lanes, the commands of each may be given to it
abbrev pub AreLanes : List (List Command) → Type 0
AreLanes lanes =
    (shape : Shape) → shape.lanes ≡ length lanes →
    (lane : ℕ) → AreCommands shape (of_lane lanes lane)
