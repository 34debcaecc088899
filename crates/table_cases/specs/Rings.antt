-- Runners in a ring.
use Rattle.std.specs.Prelude.{◌≡◌, ◌≤◌, ◌<◌}
use Rattle.table_cases.specs.declared.ring.Runner.{Runner}

-- the same runner, which has no more rounds to run than at first
pub record HasRun (first now : Runner) : Type 0 where
  pub number : now.number ≡ first.number
  pub fails : now.fails ≡ first.fails
  pub fewer : now.rounds ≤ first.rounds
