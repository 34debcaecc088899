use Rattle.std.proofs.Common.{◌≡◌, [], take, drop}
use Rattle.pool_law.specs.Legal.{all_fit}
use Rattle.run_check.specs.Fitting.{AreBrought}
use Rattle.run_check.proofs.fitting.are_commands.Given as goal

abbrev pub invariant-loop-command : goal.invariant-loop-command
invariant-loop-command l = record {
  brought : AreBrought l.names (take l.command-index l.commands);
  fits : all_fit l.shape (take l.command-index l.commands) (drop l.command-index l.commands)
      ≡ all_fit l.shape [] l.commands;
}
