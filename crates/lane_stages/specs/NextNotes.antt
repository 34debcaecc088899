-- At which object the next note of a lane stands.
use Rattle.std.specs.Prelude.{◌≡◌, ℕ, [], ◌∷◌, IsSome}
use Rattle.pool_law.specs.declared.note.Did.{Did}
use Rattle.pool_law.specs.declared.note.Note.TheVariants.{At}
use Rattle.pool_law.specs.declared.note.Object.{Object}
use Rattle.pool_law.specs.Readers.{ToldNotes, Log, Reader}

-- the first of these entries is a note in the section of this object
abbrev pub StandsFirst : Object → ToldNotes → Type 0
StandsFirst object [] = ⊥
StandsFirst object (e ∷ later) = (number : ℕ) × (did : Did) × (e.note ≡ At object number did)

-- a reading can be done: whatever was read before, there are entries that it reads
abbrev pub CanBeRead : {A : Type 0} → Reader A → Type 0
CanBeRead read =
    (seen : ToldNotes) (asked : ℕ) → (later : ToldNotes)
    × IsSome (read (record { seen = seen; asked = asked; left = later }))

-- a reading begins there: it reads no log whose next note stands elsewhere
abbrev pub BeginsAt : {A : Type 0} → Object → Reader A → Type 0
BeginsAt object read = (log : Log) → IsSome (read log) → StandsFirst object log.left
