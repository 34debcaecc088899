-- How many of the first commands of each lane send to each lane, or receive from it.
-- No public clause cites this module.
use Rattle.std.specs.Prelude.{◌≡◌, ℕ, ◌+◌, ◌<◌, ◌≤◌, Bool, List, length, take, slice_index, get_or, Vec}
use Rattle.std.specs.declared.alloc.Global.{Global}
use Rattle.pool_law.specs.declared.command.Command.{Command}
use Rattle.pool_law.specs.Stuck.{how_many, sends_to, receives_from}
use Rattle.pool_law.specs.Logs.{of_lane}
use Rattle.trace_text.specs.declared.counts.Side.{Side}
use Rattle.trace_text.specs.declared.counts.Side.TheVariants.{Sends, Receives}

-- whether a command takes this side of a hand-over with the lane
unfoldable pub meets : Side → ℕ → Command → Bool
meets Sends lane c = sends_to lane c
meets Receives lane c = receives_from lane c

-- at each line, how many of the commands before it pass the test
pub record AreCounts (test : Command → Bool) (commands : List Command)
    (counts : List ℕ) : Type 0 where
  pub size : length counts ≡ length commands + 1
  pub each : (k : ℕ) → k ≤ length commands → slice_index counts k ≡ how_many test (take k commands)

-- for each lane that the commands may meet
pub record AreRows (side : Side) (lanes : ℕ) (commands : List Command)
    (rows : List (Vec ℕ Global)) : Type 0 where
  pub size : length rows ≡ lanes
  pub each : (lane : ℕ) (d : Vec ℕ Global) → lane < lanes
      → AreCounts (meets side lane) commands (get_or rows lane d).items

-- for each lane
pub record AreTables (side : Side) (lanes : List (List Command))
    (tables : List (Vec (Vec ℕ Global) Global)) : Type 0 where
  pub size : length tables ≡ length lanes
  pub each : (lane : ℕ) (d : Vec (Vec ℕ Global) Global) → lane < length lanes
      → AreRows side (length lanes) (of_lane lanes lane) (get_or tables lane d).items
