-- Short words for entries of a log: notes with what only their object's history tells.
use Rattle.std.specs.Prelude.{ℕ, Some, None}
use Rattle.pool_law.specs.declared.id.RootId.{RootId}
use Rattle.pool_law.specs.declared.id.RegionId.{RegionId}
use Rattle.pool_law.specs.declared.note.Object.{Object}
use Rattle.pool_law.specs.declared.note.Did.{Did}
use Rattle.pool_law.specs.declared.note.RefDid.{RefDid}
use Rattle.pool_law.specs.declared.note.Note.{Note}
use Rattle.pool_law.specs.Logs.{ToldNote}

-- a note of which nothing more is told
abbrev pub alone : Note → ToldNote
alone note = record { note = note; root = None; region = None }

-- a step on the word of a root
abbrev pub on : RootId → RefDid → ToldNote
on root did = alone (Note.Ref root did)

-- an access to a root
abbrev pub access : RootId → ℕ → Did → ToldNote
access root number did =
    record { note = Note.At (Object.Root root.place) number did; root = Some root; region = None }

-- the end of a root, which takes its region out
abbrev pub end : RootId → RegionId → ℕ → ToldNote
end root region number =
    record {
      note = Note.At (Object.Root root.place) number (Did.End root);
      root = None;
      region = Some region;
    }

-- a mark after so many notes of an object
abbrev pub mark : Object → ℕ → Note
mark object number = Note.Busy (record { object = object; number = number })
