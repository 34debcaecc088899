use Rattle.std.proofs.Common.{length}
use Rattle.pool_law.specs.ChunkLists.{lists_below}
use Rattle.object_steps.proofs.lists.settling.+down_from.Given as goal

abbrev pub decreases-down_from : goal.decreases-down_from
decreases-down_from l = length (lists_below l.list)
