use Rattle.std.proofs.Common.{length}
use Rattle.pool_law.specs.ChunkLists.{lists_above}
use Rattle.object_steps.proofs.lists.settling.+up_from.Given as goal

abbrev pub decreases-up_from : goal.decreases-up_from
decreases-up_from l = length (lists_above l.list)
