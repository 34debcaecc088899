use Rattle.std.proofs.Common.{◌≡◌, ◌+◌, ◌≤◌, length, drop, reverse}
use Rattle.pool_law.specs.declared.id.RegionId.{RegionId}
use Rattle.run_picture.specs.Blocks.{blocks_from, return_from}
use Rattle.run_picture.specs.Returning.{return_in}
use Rattle.run_picture.specs.Slots.{dones_in}
use Rattle.run_picture.proofs.blocks.blocks_in.Given as goal

abbrev pub invariant-loop-index : goal.invariant-loop-index
invariant-loop-index l = record {
  within : l.index ≤ length l.dones;
  blocks : reverse l.reading.blocks.items ≡ blocks_from (l.index + 1) (dones_in (drop l.index l.dones));
  returns :
      (r : RegionId) → return_in l.reading.returns r ≡ return_from r (l.index + 1) (dones_in (drop l.index l.dones));
}

abbrev pub decreases-loop-index : goal.decreases-loop-index
decreases-loop-index l = l.index
