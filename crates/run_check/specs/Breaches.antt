-- How a run breaks the law of the pool.
use Rattle.std.specs.Prelude.{◌≡◌, ℕ, ◌<◌, List, length, IsTrue}
use Rattle.std.specs.List.{list_all}
use Rattle.size_classes.specs.Sizes.{below}
use Rattle.pool_law.specs.declared.id.RootId.{RootId}
use Rattle.pool_law.specs.declared.note.Note.{Note}
use Rattle.pool_law.specs.declared.run.Run.{Run}
use Rattle.pool_law.specs.Busy.{BusyHolds}
use Rattle.pool_law.specs.Counts.{CountsHold, TotalHolds, count_in, count_over, is_birth, names_root}
use Rattle.pool_law.specs.Leaks.{leaks_of}
use Rattle.pool_law.specs.Legal.{AreCommands, LooksHold, others_retains, ends_from, logs_of}
use Rattle.pool_law.specs.Limits.{IsShape}
use Rattle.pool_law.specs.Logs.{ToldNote, of_lane, note_stands, history_of, entries_of}
use Rattle.run_check.specs.Fronts.{IsBrokenAt}
use Rattle.run_check.specs.Placing.{BreaksFirst, DifferAt, IsAnsweredTo}
use Rattle.run_check.specs.declared.breach.Breach.{Breach}
use Rattle.run_check.specs.declared.breach.Breach.TheVariants.{Measures, Lanes, Commands, History, Notes, Marks, Chunks, Answers, Uses, Totals, Unborn, Looks, Leaks}

-- the run has a list of commands and a log for each lane
abbrev pub HasLanes : Run → Type 0
HasLanes run =
    (length run.trace.lanes ≡ run.shape.lanes) × (length run.logs ≡ run.shape.lanes)

-- each lane's log with what the histories of objects tell of it
abbrev pub lane_entries : Run → List (List ToldNote)
lane_entries run = entries_of (logs_of run)

-- the root was born
abbrev pub IsBorn : Run → RootId → Type 0
IsBorn run root = 0 < count_over (is_birth root) (lane_entries run)

-- what is asked of the notes of one lane: here of the lane's first notes, however many
abbrev pub MayNoteAll : Run → ℕ → List Note → Type 0
MayNoteAll run lane notes = IsTrue (list_all (note_stands run.shape lane) notes)

abbrev pub MarksAreRight : Run → ℕ → List Note → Type 0
MarksAreRight run lane notes = BusyHolds lane (λ object. history_of object (logs_of run)) notes

abbrev pub CountsItsRoots : Run → ℕ → List ToldNote → Type 0
CountsItsRoots run lane entries = (root : RootId) → CountsHold root 0 entries

abbrev pub LooksAreRight : Run → ℕ → List ToldNote → Type 0
LooksAreRight run lane entries =
    (root : RootId) →
    LooksHold root (others_retains root lane 0 (lane_entries run)) 0 0 0 entries

abbrev pub NamesAreBorn : Run → ℕ → List ToldNote → Type 0
NamesAreBorn run lane entries =
    (root : RootId) → 0 < count_in (names_root root) entries → IsBorn run root

-- the run doesn't keep this part of the law, and this is the first place where it doesn't
abbrev pub Breaks : Run → Breach → Type 0
Breaks run Measures = IsShape run.shape → ⊥
Breaks run Lanes = HasLanes run → ⊥
Breaks run Commands =
    ((lane : ℕ) → AreCommands run.shape (of_lane run.trace.lanes lane)) → ⊥
Breaks run (History object number) = IsBrokenAt run.shape (logs_of run) object number
Breaks run (Notes spot) = BreaksFirst (MayNoteAll run) (logs_of run) spot
Breaks run (Marks spot) = BreaksFirst (MarksAreRight run) (logs_of run) spot
Breaks run (Chunks at) =
    DifferAt run.chunks (ends_from run.shape (logs_of run) (below run.shape.arenas)) at
Breaks run (Answers lane command) =
    IsAnsweredTo run.shape run.trace.lanes run.logs lane command
Breaks run (Uses spot) = BreaksFirst (CountsItsRoots run) (lane_entries run) spot
Breaks run (Totals root) = IsBorn run root × (TotalHolds root (lane_entries run) → ⊥)
Breaks run (Unborn spot) = BreaksFirst (NamesAreBorn run) (lane_entries run) spot
Breaks run (Looks spot) = BreaksFirst (LooksAreRight run) (lane_entries run) spot
Breaks run (Leaks at) = DifferAt run.leaks (leaks_of run.shape (logs_of run)) at
