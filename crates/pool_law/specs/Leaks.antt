-- Which roots are live at the end, and what is reported of them.
use Rattle.std.specs.Prelude.{ℕ, ◌+◌, ◌-◌, ◌%◌, Bool, true, false, ◌==◌, not, ◌&&◌, if◌then◌else◌, List, [], ◌∷◌, ◌++◌, length, drop, Option, Some, None}
use Rattle.pool_law.specs.declared.id.RootId.{RootId}
use Rattle.pool_law.specs.declared.note.Object.TheVariants.{Root}
use Rattle.pool_law.specs.declared.note.Did.TheVariants.{Birth, Set, Get, Touch, End}
use Rattle.pool_law.specs.declared.note.Note.{Note}
use Rattle.pool_law.specs.declared.note.Note.TheVariants.{At, Ref, Busy}
use Rattle.pool_law.specs.declared.report.Access.{Access}
use Rattle.pool_law.specs.declared.report.Leak.{Leak}
use Rattle.pool_law.specs.declared.run.Level.{Level}
use Rattle.pool_law.specs.declared.run.Shape.{Shape}
use Rattle.pool_law.specs.Same.{same_root}
use Rattle.pool_law.specs.Logs.{Logs, History, dids, history_of, present_in, entries_of}
use Rattle.pool_law.specs.Roots.{Present}
use Rattle.pool_law.specs.Histories.{place_after}
use Rattle.pool_law.specs.Counts.{total_of}

-- the roots born in a log, in order
abbrev pub births : List Note → List RootId
births [] = []
births (At object number (Birth root region) ∷ ns) = root ∷ births ns
births (At object number _ ∷ ns) = births ns
births (Ref root did ∷ ns) = births ns
births (Busy held ∷ ns) = births ns

-- whether the birth with this serial is sampled, and whether its accesses are kept
abbrev pub is_sampled : Level → ℕ → ℕ → Bool
is_sampled Level.Disabled interval serial = false
is_sampled Level.Simple interval serial = (serial - 1) % interval == 0
is_sampled Level.Advanced interval serial = (serial - 1) % interval == 0
is_sampled Level.Paranoid interval serial = true

-- the level keeps the accesses of a sampled root
abbrev pub keeps_records : Level → Bool
keeps_records Level.Disabled = false
keeps_records Level.Simple = false
keeps_records Level.Advanced = true
keeps_records Level.Paranoid = true

-- the accesses to a root, in order of its place's history; live tells whether the root is present
abbrev pub accesses : RootId → Bool → History → List Access
accesses root live [] = []
accesses root live ((lane, Birth born region) ∷ h) = accesses root (same_root born root) h
accesses root live ((lane, End ended) ∷ h) = accesses root false h
accesses root true ((lane, Set offset bytes) ∷ h) =
    Access.Set lane offset (length bytes) ∷ accesses root true h
accesses root true ((lane, Get offset bytes) ∷ h) =
    Access.Get lane offset (length bytes) ∷ accesses root true h
accesses root true ((lane, Touch) ∷ h) = Access.Touch lane ∷ accesses root true h
accesses root live ((lane, _) ∷ h) = accesses root live h

-- the accesses to a root in the logs
abbrev pub accesses_to : RootId → Logs → List Access
accesses_to root logs = accesses root false (history_of (Root root.place) logs)

-- the last four are kept
abbrev pub kept_of : List Access → List Access
kept_of all = drop (length all - 4) all

-- how many are not kept
abbrev pub dropped_of : List Access → ℕ
dropped_of all = length all - 4

-- the capacity that a root has at the end
abbrev pub capacity_in : RootId → Option Present → ℕ
capacity_in root None = root.capacity
capacity_in root (Some p) = length p.bytes

-- the capacity of a root at the end of the logs
abbrev pub capacity_at_end : RootId → Logs → ℕ
capacity_at_end root logs =
    capacity_in root (present_in (place_after root.place (dids (history_of (Root root.place) logs))))

-- the report of one live root
abbrev pub leak_of : Level → Logs → ℕ → ℕ → RootId → Leak
leak_of level logs lane serial root =
    record {
      lane = lane;
      serial = serial;
      capacity = capacity_at_end root logs;
      count = total_of root (entries_of logs);
      records = (if keeps_records level then kept_of (accesses_to root logs) else []);
      dropped = (if keeps_records level then dropped_of (accesses_to root logs) else 0);
    }

-- a root is live at the end
abbrev pub is_live : Logs → RootId → Bool
is_live logs root = not (total_of root (entries_of logs) == 0)

-- what is reported of the roots born in a lane, from this serial on
abbrev pub lane_leaks : Shape → Logs → ℕ → ℕ → List RootId → List Leak
lane_leaks shape logs lane serial [] = []
lane_leaks shape logs lane serial (root ∷ roots) =
    (if is_live logs root && is_sampled shape.level shape.interval serial
    then leak_of shape.level logs lane serial root ∷ []
    else [])
    ++ lane_leaks shape logs lane (serial + 1) roots

-- what is reported of the lanes from this one on
abbrev pub leaks_from : Shape → Logs → ℕ → Logs → List Leak
leaks_from shape logs lane [] = []
leaks_from shape logs lane (log ∷ rest) =
    lane_leaks shape logs lane 1 (births log) ++ leaks_from shape logs (lane + 1) rest

-- the report: the live roots that are sampled, by lane and serial
abbrev pub leaks_of : Shape → Logs → List Leak
leaks_of shape logs = leaks_from shape logs 0 logs
