use Rattle.std.proofs.Common.{◌≡◌, ◌-◌}
use Rattle.pool_law.specs.Patterns.{sheds}
use Rattle.pool_law.specs.Readers.{ToldNotes}
use Rattle.lane_reader.specs.Reading.{log_from}
use Rattle.lane_reader.proofs.log.Log.sheds.Given as goal

abbrev pub invariant-loop-region : goal.invariant-loop-region
invariant-loop-region l =
    (before : ToldNotes) →
    sheds l.lane l.class (l.count - l._region) (log_from before l.self l.here)
    ≡ sheds l.lane l.class l.count (log_from before l.self l.fn.at)
