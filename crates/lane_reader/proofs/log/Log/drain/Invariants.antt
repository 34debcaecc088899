use Rattle.std.proofs.Common.{◌≡◌, ℕ, List, drop}
use Rattle.size_classes.specs.Sizes.{below}
use Rattle.pool_law.specs.Patterns.{drain}
use Rattle.pool_law.specs.Readers.{ToldNotes}
use Rattle.lane_reader.specs.Reading.{log_from}
use Rattle.lane_reader.specs.Draining.{quota_of}
use Rattle.lane_reader.proofs.log.Log.drain.Given as goal

abbrev pub invariant-loop-class : goal.invariant-loop-class
invariant-loop-class l =
    (before : ToldNotes) (classes : List ℕ) → classes ≡ below 40 →
    drain l.lane (quota_of l.kind) (drop l.class classes) (log_from before l.self l.here)
    ≡ drain l.lane (quota_of l.kind) classes (log_from before l.self l.fn.at)
