use Rattle.std.proofs.Common.{◌≡◌, ◌+◌, ◌-◌, take, map}
use Rattle.pool_law.specs.Composites.{size_of}
use Rattle.lane_reader.specs.Viewing.{part_of}
use Rattle.lane_reader.proofs.composite.hold.Given as goal

abbrev pub invariant-loop-part : goal.invariant-loop-part
invariant-loop-part l = l.skip + l.left ≡ (l.fn.index + l.fn.len) - size_of (map part_of (take l.part-index l.parts))
