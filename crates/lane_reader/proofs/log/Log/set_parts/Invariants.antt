use Rattle.std.proofs.Common.{◌≡◌, drop, length, map}
use Rattle.pool_law.specs.Composites.{ranges}
use Rattle.pool_law.specs.Lanes.{set_parts}
use Rattle.pool_law.specs.Readers.{ToldNotes}
use Rattle.lane_reader.specs.Viewing.{part_of}
use Rattle.lane_reader.specs.Reading.{log_from}
use Rattle.lane_reader.proofs.log.Log.set_parts.Given as goal

abbrev pub invariant-loop-part : goal.invariant-loop-part
invariant-loop-part l =
    (before : ToldNotes) →
    set_parts (ranges (map part_of (drop l.part-index l.parts)) l.skip (length l.rest)) l.rest
    (log_from before l.self l.here)
    ≡ set_parts (ranges (map part_of l.parts) l.fn.index (length l.fn.bytes)) l.fn.bytes
    (log_from before l.self l.fn.at)
