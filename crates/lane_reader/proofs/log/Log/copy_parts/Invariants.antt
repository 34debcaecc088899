use Rattle.std.proofs.Common.{◌≡◌, ◌≤◌, ◌*◌, ◌^◌, drop, map}
use Rattle.pool_law.specs.Composites.{filled}
use Rattle.pool_law.specs.Lanes.{copy_parts}
use Rattle.pool_law.specs.Readers.{ToldNotes}
use Rattle.lane_reader.specs.Viewing.{part_of}
use Rattle.lane_reader.specs.Reading.{log_from}
use Rattle.lane_reader.proofs.log.Log.copy_parts.Given as goal

abbrev pub invariant-loop-part : goal.invariant-loop-part
invariant-loop-part l = record {
  within : l.index ≤ l.part-index * 2 ^ 34;
  reads : (before : ToldNotes) →
      copy_parts l.root l.index (filled (map part_of (drop l.part-index l.parts))) (log_from before l.self l.here)
      ≡ copy_parts l.root 0 (filled (map part_of l.parts)) (log_from before l.self l.fn.at);
}
