-- What an allocation and a release come to, as the program reads them.
use Rattle.std.specs.Prelude.{◌==◌, if◌then◌else◌, Option, option_map, Result, Ok, Err}
use Rattle.pool_law.specs.declared.id.RootId.{RootId}
use Rattle.pool_law.specs.declared.id.RegionId.{RegionId}
use Rattle.pool_law.specs.declared.run.Shape.{Shape}
use Rattle.pool_law.specs.declared.run.Reply.{Reply}
use Rattle.pool_law.specs.Composites.{Composite}
use Rattle.pool_law.specs.Lanes.{release_parts}
use Rattle.pool_law.specs.Readers.{ToldNotes, Reader, ◌>>◌, give}
use Rattle.pool_law.specs.Patterns.{New}
use Rattle.lane_reader.specs.declared.log.Log.{Log}
use Rattle.lane_reader.specs.declared.log.At.{At}
use Rattle.lane_reader.specs.declared.patterns.Allotted.{Allotted}
use Rattle.lane_reader.specs.declared.patterns.Released.{Released}
use Rattle.lane_reader.specs.Reading.{log_from}

-- a root that is born, and the log behind it
abbrev pub reads_birth :
    ToldNotes → Log → Option (RootId × RegionId × At) →
    Option (RootId × Rattle.pool_law.specs.Readers.Log)
reads_birth before log o = option_map (λ p. (p.0, log_from before log p.2)) o

-- what an allocation comes to, in the law's words
abbrev pub new_or_reply : Allotted → Result New Reply
new_or_reply (Allotted.New root region) = Ok (record { root = root; region = region })
new_or_reply Allotted.Handles = Err Reply.Handles
new_or_reply Allotted.Full = Err Reply.Full

-- an allocation that is read, and the log behind it
abbrev pub reads_new :
    ToldNotes → Log → Option (Allotted × At) →
    Option (Result New Reply × Rattle.pool_law.specs.Readers.Log)
reads_new before log o = option_map (λ p. (new_or_reply p.0, log_from before log p.1)) o

-- what a release is answered
abbrev pub reply_to : Released → Reply
reply_to Released.Kept = Reply.Kept
reply_to Released.Freed = Reply.Freed

-- a release that is read, and the log behind it
abbrev pub reads_release :
    ToldNotes → Log → Option (Released × At) →
    Option (Reply × Rattle.pool_law.specs.Readers.Log)
reads_release before log o = option_map (λ p. (reply_to p.0, log_from before log p.1)) o

-- a count of a composite is taken away, and its last one releases its parts
abbrev pub release_whole : Shape → Composite → Reader Reply
release_whole shape c =
    if c.count == 1 then release_parts shape c.parts >> give Reply.Freed else give Reply.Kept
