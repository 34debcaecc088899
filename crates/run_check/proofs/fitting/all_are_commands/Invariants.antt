use Rattle.std.proofs.Common.{ℕ, ◌<◌}
use Rattle.pool_law.specs.Logs.{of_lane}
use Rattle.pool_law.specs.Legal.{AreCommands}
use Rattle.run_check.proofs.fitting.all_are_commands.Given as goal

abbrev pub invariant-loop-commands : goal.invariant-loop-commands
invariant-loop-commands l = (k : ℕ) → k < l.commands-index → AreCommands l.shape (of_lane l.lanes k)
