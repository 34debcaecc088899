-- What the lanes of a trace need of their pool.
use Rattle.std.specs.Prelude.{◌≡◌, ℕ, ◌+◌, ◌*◌, ◌<◌, ◌≤◌, Bool, true, false, ◌==◌, List, length, Some, slice_get}
use Rattle.pool_law.specs.declared.command.Command.{Command}
use Rattle.pool_law.specs.Bounds.{note_bound}
use Rattle.pool_law.specs.Logs.{of_lane}
use Rattle.pool_table.specs.declared.views.Layout.{Layout}
use Rattle.lane_core.specs.Lanes.{left_for_all}

-- the command makes a root, or retains one
abbrev pub is_move : Command → Bool
is_move (Command.Alloc name size) = true
is_move (Command.Slice fresh name at len retained) = retained
is_move (Command.Retain name) = true
is_move (Command.Compose fresh names) = true
is_move (Command.Add whole name) = true
is_move _ = false

-- the command sends to this lane
abbrev pub is_send : ℕ → Command → Bool
is_send to (Command.Send name lane) = lane == to
is_send to _ = false

-- the layout has room for a lane with these commands
pub record HasRoomFor (layout : Layout) (commands : List Command) : Type 0 where
  pub moves : (left_for_all commands).moves ≤ layout.moves
  pub turns : note_bound commands ≤ layout.turns

-- how many parcels a lane sends to another
abbrev pub sent : List (List Command) → ℕ → ℕ → ℕ
sent lanes sender to = (left_for_all (of_lane lanes sender)).sends to

-- for each two lanes, how many parcels the first sends to the second
abbrev pub AreSent : List (List Command) → List ℕ → Type 0
AreSent lanes mail =
    (sender to : ℕ) → sender < length lanes → to < length lanes →
    slice_get mail (sender * length lanes + to) ≡ Some (sent lanes sender to)
