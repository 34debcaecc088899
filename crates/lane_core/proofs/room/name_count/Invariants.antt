use Rattle.std.proofs.Common.{take}
use Rattle.std.specs.Prelude.{All}
use Rattle.lane_core.specs.Opened.{ChangesBelow}
use Rattle.lane_core.proofs.room.name_count.Given as goal

abbrev pub invariant-loop-command : goal.invariant-loop-command
invariant-loop-command l = All (ChangesBelow l.count) (take l.command-index l.commands)
