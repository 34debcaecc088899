-- Notes by name.
use Rattle.std.specs.Prelude.{ℕ, Option, None}
use Rattle.pool_law.specs.declared.note.Noted.{Noted}
use Rattle.pool_law.specs.declared.note.Did.TheVariants.{Touch}

-- a note that stands for none
abbrev pub nothing_noted : Noted
nothing_noted = record { did = Touch; lane = None; watch = None; root = None; region = None }

-- the note as the seat with this number makes it
abbrev pub noted_by : Option ℕ → Noted → Noted
noted_by lane n =
    record { did = n.did; lane = lane; watch = n.watch; root = n.root; region = n.region }
