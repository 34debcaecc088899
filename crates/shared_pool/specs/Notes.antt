-- The notes of the calls, by name.
use Rattle.std.specs.Prelude.{Option, Some, None}
use Rattle.pool_law.specs.declared.note.Did.{Did}
use Rattle.pool_law.specs.declared.note.Noted.{Noted}
use Rattle.pool_law.specs.declared.id.Region.{Region}
use Rattle.handle_bin.specs.Bins.{HandleValue}

-- a note with nothing beside what was done
abbrev pub plain : Did → Noted
plain did = record { did = did; lane = None; watch = None; root = None; region = None }

-- what a pop of a bin noted
abbrev pub popped : Option HandleValue → Did
popped (Some h) = Did.Handle h.place
popped None = Did.NoHandle

-- what a pop of a cache noted
abbrev pub hit : Option Region → Did
hit (Some r) = Did.Hit r.id
hit None = Did.Miss
