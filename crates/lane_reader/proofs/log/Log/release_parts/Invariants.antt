use Rattle.std.proofs.Common.{◌≡◌, drop, map}
use Rattle.pool_law.specs.Lanes.{release_parts}
use Rattle.pool_law.specs.Readers.{ToldNotes}
use Rattle.lane_reader.specs.Viewing.{part_of}
use Rattle.lane_reader.specs.Reading.{log_from}
use Rattle.lane_reader.specs.Counting.{AreCounts}
use Rattle.lane_reader.proofs.log.Log.release_parts.Given as goal

abbrev pub invariant-loop-part : goal.invariant-loop-part
invariant-loop-part l =
    (before : ToldNotes) → AreCounts l.counts before →
    release_parts l.shape (map part_of (drop l.part-index l.parts)) (log_from before l.self l.here)
    ≡ release_parts l.shape (map part_of l.parts) (log_from before l.self l.fn.at)
