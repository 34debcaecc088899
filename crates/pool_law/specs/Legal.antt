-- Which runs are legal.
use Rattle.std.specs.Prelude.{◌≡◌, ℕ, ◌+◌, ◌<◌, ◌≤◌, Bool, true, false, not, ◌==◌, ◌&&◌, nat_lt, nat_le, if◌then◌else◌, List, [], ◌∷◌, ◌++◌, length, map, Option, Some, None, IsTrue}
use Rattle.std.specs.List.{list_all}
use Rattle.size_classes.specs.Sizes.{below}
use Rattle.pool_law.specs.declared.id.RootId.{RootId}
use Rattle.pool_law.specs.declared.command.Command.{Command}
use Rattle.pool_law.specs.declared.note.Object.{Object}
use Rattle.pool_law.specs.declared.note.RefDid.TheVariants.{Look}
use Rattle.pool_law.specs.declared.note.Note.{Note}
use Rattle.pool_law.specs.declared.note.Note.TheVariants.{Ref}
use Rattle.pool_law.specs.declared.report.ChunkEnd.{ChunkEnd}
use Rattle.pool_law.specs.declared.run.Shape.{Shape}
use Rattle.pool_law.specs.declared.run.Answered.{Answered}
use Rattle.pool_law.specs.declared.run.Run.{Run}
use Rattle.pool_law.specs.Same.{same_root}
use Rattle.pool_law.specs.Limits.{IsShape, geometry_of}
use Rattle.pool_law.specs.Arenas.{Arena, chunk_ends}
use Rattle.pool_law.specs.Histories.{IsAccepted, arena_after}
use Rattle.pool_law.specs.Logs.{Logs, ToldNote, dids, of_lane, IsHistory, has_history, history_of, note_stands, entries_of}
use Rattle.pool_law.specs.Mails.{MailsHold}
use Rattle.pool_law.specs.Counts.{CountsHold, TotalHolds, LookHolds, count_over, count_in, count_step, names_root, is_retain, is_release, is_birth}
use Rattle.pool_law.specs.LaneLaw.{IsLaneLog}
use Rattle.pool_law.specs.Busy.{BusyHolds}
use Rattle.pool_law.specs.Leaks.{leaks_of}

-- the new name of a command, if it has one
abbrev pub new_name : Command → Option ℕ
new_name (Command.Alloc name size) = Some name
new_name (Command.Slice fresh name at len retained) = Some fresh
new_name (Command.Dup fresh name) = Some fresh
new_name (Command.Recv fresh lane) = Some fresh
new_name (Command.Compose fresh names) = Some fresh
new_name _ = None

-- a command brings this name
abbrev pub is_named : ℕ → Option ℕ → Bool
is_named name None = false
is_named name (Some other) = name == other

-- what a lane needs of a command, after those before it
abbrev pub fits_after : Shape → List Command → Command → Bool
fits_after shape earlier (Command.Send name lane) = nat_lt lane shape.lanes
fits_after shape earlier (Command.Recv fresh lane) =
    nat_lt lane shape.lanes && list_all (λ c. not (is_named fresh (new_name c))) earlier
fits_after shape earlier (Command.Compose fresh names) =
    nat_le 1 (length names) && nat_le (length names) 24
fits_after shape earlier _ = true

-- each command fits after those before it
abbrev pub all_fit : Shape → List Command → List Command → Bool
all_fit shape earlier [] = true
all_fit shape earlier (c ∷ cs) =
    fits_after shape earlier c && all_fit shape (earlier ++ c ∷ []) cs

-- the commands of one lane
pub record AreCommands (shape : Shape) (commands : List Command) : Type 0 where
  pub few : length commands ≤ 65536
  pub fit : IsTrue (all_fit shape [] commands)

-- what a lane looks up of a count is in its bounds
abbrev pub LookAt : RootId → ℕ → ℕ → ℕ → ℕ → Note → Type 0
LookAt root retains releases count others (Ref r (Look found)) =
    IsTrue (same_root r root) → LookHolds root retains releases count others found
LookAt root retains releases count others _ = Unit {0}

-- one where a test holds
abbrev pub one_if : Bool → ℕ
one_if test = if test then 1 else 0

-- what a lane looks up of a root is in its bounds, after so many own retains and releases
abbrev pub LooksHold : RootId → ℕ → ℕ → ℕ → ℕ → List ToldNote → Type 0
LooksHold root others retains releases count [] = Unit {0}
LooksHold root others retains releases count (e ∷ es) =
    LookAt root retains releases count others e.note
    × LooksHold root others
    (retains + one_if (is_retain root e.note))
    (releases + one_if (is_release root e.note))
    (count_step root count e)
    es

-- the retains of a root in the logs other than this lane's
abbrev pub others_retains : RootId → ℕ → ℕ → List (List ToldNote) → ℕ
others_retains root lane at [] = 0
others_retains root lane at (es ∷ logs) =
    (if at == lane then 0 else count_in (is_retain root) es)
    + others_retains root lane (at + 1) logs

-- the sentences on counts, over the logs of all lanes: each lane's own counts, what is named was
-- born, the totals of the roots that were born, and what was looked up. (That a birth and its Born
-- stand in one log, and an end, its Ended and its Vacated in one, each once and in order, the
-- patterns of a lane's log say.)
pub record CountsAgree (logs : List (List ToldNote)) : Type 0 where
  pub lanes : (root : RootId) (lane : ℕ) → CountsHold root 0 (of_lane logs lane)
  pub born : (root : RootId) → 0 < count_over (names_root root) logs →
      0 < count_over (is_birth root) logs
  pub totals : (root : RootId) → 0 < count_over (is_birth root) logs → TotalHolds root logs
  pub looks : (root : RootId) (lane : ℕ) →
      LooksHold root (others_retains root lane 0 logs) 0 0 0 (of_lane logs lane)

-- the logs give each object but the mails a whole history, which it accepts, and each mail holds
pub record HistoriesHold (shape : Shape) (logs : Logs) : Type 0 where
  pub whole : (object : Object) → IsTrue (has_history object) →
      IsHistory object logs (history_of object logs)
  pub accepted : (object : Object) → IsTrue (has_history object) →
      IsAccepted shape object (dids (history_of object logs))
  pub mails : MailsHold logs
  pub stand : (lane : ℕ) → IsTrue (list_all (note_stands shape lane) (of_lane logs lane))

-- the chunks of an arena at the end
abbrev pub ends_of : Shape → ℕ → Option Arena → List ChunkEnd
ends_of shape number None = []
ends_of shape number (Some a) = chunk_ends (geometry_of shape) number a

-- the chunks of an arena at the end
abbrev pub arena_ends : Shape → Logs → ℕ → List ChunkEnd
arena_ends shape logs number =
    ends_of shape number (arena_after shape number (dids (history_of (Object.Arena number) logs)))

-- the chunks of these arenas at the end
abbrev pub ends_from : Shape → Logs → List ℕ → List ChunkEnd
ends_from shape logs [] = []
ends_from shape logs (number ∷ numbers) =
    arena_ends shape logs number ++ ends_from shape logs numbers

-- the notes of a run, lane by lane
abbrev pub logs_of : Run → Logs
logs_of run = map (λ l. l.notes) run.logs

-- the replies of a lane
abbrev pub replies_of : Run → ℕ → List Answered
replies_of run lane = of_lane (map (λ l. l.replies) run.logs) lane

-- a run that the pool can make
pub record IsLegal (run : Run) : Type 0 where
  pub shape : IsShape run.shape
  pub lanes : length run.trace.lanes ≡ run.shape.lanes
  pub logs : length run.logs ≡ run.shape.lanes
  pub commands : (lane : ℕ) → AreCommands run.shape (of_lane run.trace.lanes lane)
  pub histories : HistoriesHold run.shape (logs_of run)
  pub counts : CountsAgree (entries_of (logs_of run))
  pub answers : (lane : ℕ) → lane < run.shape.lanes →
      IsLaneLog run.shape lane (of_lane run.trace.lanes lane) (replies_of run lane)
      (of_lane (entries_of (logs_of run)) lane)
  pub busy : (lane : ℕ) →
      BusyHolds lane (λ object. history_of object (logs_of run)) (of_lane (logs_of run) lane)
  pub chunks : run.chunks ≡ ends_from run.shape (logs_of run) (below run.shape.arenas)
  pub leaks : run.leaks ≡ leaks_of run.shape (logs_of run)
