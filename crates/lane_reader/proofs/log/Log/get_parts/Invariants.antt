use Rattle.std.proofs.Common.{◌≡◌, drop, map}
use Rattle.pool_law.specs.Composites.{ranges}
use Rattle.pool_law.specs.Lanes.{get_parts}
use Rattle.pool_law.specs.Readers.{ToldNotes}
use Rattle.lane_reader.specs.Viewing.{part_of}
use Rattle.lane_reader.specs.Reading.{log_from}
use Rattle.lane_reader.specs.Parting.{where_same}
use Rattle.lane_reader.proofs.log.Log.get_parts.Given as goal

abbrev pub invariant-loop-part : goal.invariant-loop-part
invariant-loop-part l =
    (before : ToldNotes) →
    where_same l.rest (get_parts (ranges (map part_of (drop l.part-index l.parts)) l.skip l.left)
    (log_from before l.self l.here))
    ≡ where_same l.fn.these (get_parts (ranges (map part_of l.parts) l.fn.index l.fn.len)
    (log_from before l.self l.fn.at))
