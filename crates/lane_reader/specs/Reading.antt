-- A lane's log as the program reads it.
use Rattle.std.specs.Prelude.{◌≡◌, ℕ, List, [], ◌∷◌, ◌++◌, take, drop, Option, None, option_map, slice_get, unwrap_or}
use denote.Ref.{Bor}
use Rattle.pool_law.specs.declared.note.Note.{Note}
use Rattle.pool_law.specs.declared.note.Did.{Did}
use Rattle.pool_law.specs.Logs.{ToldNote}
use Rattle.pool_law.specs.Readers.{ToldNotes, behind_entry}
use Rattle.lane_reader.specs.declared.log.Log.{Log}
use Rattle.object_steps.specs.declared.told.PlaceTold.{PlaceTold}
use Rattle.lane_reader.specs.declared.log.At.{At}
use Rattle.lane_reader.specs.declared.log.Next.{Next}

-- a note with what is told of it
abbrev pub entry : Note → PlaceTold → ToldNote
entry note told = record { note = note; root = told.root; region = told.region }

-- nothing is told
abbrev pub untold : PlaceTold
untold = record { root = None; region = None }

-- each note with what is told of it
abbrev pub entries_in : List Note → List PlaceTold → ToldNotes
entries_in [] told = []
entries_in (n ∷ ns) [] = entry n untold ∷ entries_in ns []
entries_in (n ∷ ns) (t ∷ ts) = entry n t ∷ entries_in ns ts

-- the entries of a log
abbrev pub entries : Log → ToldNotes
entries log = entries_in log.notes.now log.told.now

-- what is told of the note at a place
abbrev pub told_at : Log → ℕ → PlaceTold
told_at log place = unwrap_or (slice_get log.told.now place) untold

-- the law's log, where this one is read up to a place, behind what the lane noted before
abbrev pub log_from : ToldNotes → Log → At → Rattle.pool_law.specs.Readers.Log
log_from before log at = record {
  seen = before ++ take at.place (entries log);
  asked = at.asked;
  left = drop at.place (entries log);
}

-- what is read, and the log behind it
abbrev pub reads :
    {X : Type 0} → ToldNotes → Log → Option (X × At) →
    Option (X × Rattle.pool_law.specs.Readers.Log)
reads before log o = option_map (λ p. (p.0, log_from before log p.1)) o

-- the same, where what is read is behind a reference
abbrev pub reads_did :
    ToldNotes → Log → Option (Bor Did × At) → Option (Did × Rattle.pool_law.specs.Readers.Log)
reads_did before log o = option_map (λ p. (p.0.now, log_from before log p.1)) o

-- the log behind what is read, which says no more
abbrev pub passes :
    ToldNotes → Log → Option At → Option (Unit {0} × Rattle.pool_law.specs.Readers.Log)
passes before log o = option_map (λ at. (tt, log_from before log at)) o

-- this is the next note
abbrev pub IsNext : ToldNotes → Log → At → Next → Type 0
IsNext before log at n =
    let e = entry n.note.now n.told in
    let rest = drop n.behind.place (entries log) in
    (drop at.place (entries log) ≡ e ∷ rest)
    × (behind_entry (log_from before log at) e rest ≡ log_from before log n.behind)
