-- What an ask for capacity comes to, as the program reads it.
use Rattle.std.specs.Prelude.{ℕ, Option, option_map, Result, Ok, Err}
use Rattle.pool_law.specs.declared.id.RegionId.{RegionId}
use Rattle.pool_law.specs.declared.run.Reply.{Reply}
use Rattle.pool_law.specs.Patterns.{Grown}
use Rattle.pool_law.specs.Readers.{ToldNotes}
use Rattle.lane_reader.specs.declared.log.Log.{Log}
use Rattle.lane_reader.specs.declared.log.At.{At}
use Rattle.lane_reader.specs.declared.growing.Regrown.{Regrown}
use Rattle.lane_reader.specs.Reading.{log_from}

-- a growth that is read, and the log behind it
abbrev pub reads_grown :
    ToldNotes → Log → Option (ℕ × RegionId × At) →
    Option (Grown × Rattle.pool_law.specs.Readers.Log)
reads_grown before log o =
    option_map (λ p. (record { capacity = p.0; spare = p.1 }, log_from before log p.2)) o

-- what an ask comes to, in the law's words
abbrev pub capacity_or_reply : Regrown → Result ℕ Reply
capacity_or_reply (Regrown.Has capacity) = Ok capacity
capacity_or_reply Regrown.Full = Err Reply.Full

-- an ask that is read, and the log behind it
abbrev pub reads_regrown :
    ToldNotes → Log → Option (Regrown × At) →
    Option (Result ℕ Reply × Rattle.pool_law.specs.Readers.Log)
reads_regrown before log o =
    option_map (λ p. (capacity_or_reply p.0, log_from before log p.1)) o
