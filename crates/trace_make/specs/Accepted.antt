-- What a run asks of a trace.
use Rattle.std.specs.Prelude.{◌≡◌, ◌≤◌, ⊤, List, length, None, All}
use Rattle.pool_law.specs.declared.command.Command.{Command}
use Rattle.pool_law.specs.declared.command.Command.TheVariants.{Compose, Add}
use Rattle.pool_law.specs.Stuck.{command_count, stuck_at}
use Rattle.pool_law.specs.Traces.{AreLanes, byte_limit, bytes_asked, command_limit, lane_limit}

-- a command makes no composite
abbrev pub IsPlain : Command → Type 0
IsPlain (Compose fresh names) = ⊥
IsPlain (Add whole name) = ⊥
IsPlain _ = ⊤

-- a trace within the limits, whose lanes may be given their commands and don't get stuck
pub record IsAccepted (lanes : List (List Command)) : Type 0 where
  pub some_lane : 1 ≤ length lanes
  pub few_lanes : length lanes ≤ lane_limit
  pub few_commands : command_count lanes ≤ command_limit
  pub few_bytes : bytes_asked lanes ≤ byte_limit
  pub each : AreLanes lanes
  pub plain : All (All IsPlain) lanes
  pub moves : stuck_at lanes ≡ None
