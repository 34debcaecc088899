-- A report of live roots as the program checks it.
use Rattle.std.specs.Prelude.{◌≡◌, ℕ, ◌+◌, ◌-◌, ◌==◌, ◌&&◌, not, Bool, true, false, if◌then◌else◌, List, [], ◌∷◌, ◌++◌, ◌≤◌, length, map, take}
use Rattle.pool_law.specs.declared.id.RootId.{RootId}
use Rattle.pool_law.specs.declared.note.Did.{Did}
use Rattle.pool_law.specs.declared.note.Did.TheVariants.{Birth, Set, Get, Touch, End}
use Rattle.pool_law.specs.declared.note.Note.{Note}
use Rattle.pool_law.specs.declared.note.Object.TheVariants.{Root}
use Rattle.pool_law.specs.declared.report.Access.{Access}
use Rattle.pool_law.specs.declared.report.Leak.{Leak}
use Rattle.pool_law.specs.declared.run.LaneLog.{LaneLog}
use Rattle.pool_law.specs.declared.run.Level.{Level}
use Rattle.pool_law.specs.declared.run.Shape.{Shape}
use Rattle.pool_law.specs.Same.{same_root}
use Rattle.pool_law.specs.Leaks.{births, is_sampled, keeps_records, accesses, kept_of, dropped_of, capacity_in}
use Rattle.pool_law.specs.Logs.{dids, present_in}
use Rattle.pool_law.specs.Histories.{place_after}
use Rattle.run_check.specs.Merging.{dones_in}
use Rattle.run_check.specs.Placing.{DifferAt}
use Rattle.run_check.specs.Storing.{history_in}
use Rattle.run_check.specs.Tallying.{total_sums}
use Rattle.run_check.specs.declared.histories.Histories.{Histories}
use Rattle.run_check.specs.declared.merging.Done.{Done}
use Rattle.run_check.specs.declared.tally.Totals.{Totals}
use Rattle.run_check.specs.declared.tally.Tally.{Tally}

-- a root is present after a note at its place
abbrev pub live_after : RootId → Bool → Did → Bool
live_after root live (Birth born region) = same_root born root
live_after root live (End ended) = false
live_after root live _ = live

-- the access that a note is, if it is one
abbrev pub access_by : ℕ × Did → Access
access_by (lane, Set offset bytes) = Access.Set lane offset (length bytes)
access_by (lane, Get offset bytes) = Access.Get lane offset (length bytes)
access_by (lane, _) = Access.Touch lane

-- a note is an access
abbrev pub is_access : Did → Bool
is_access (Set offset bytes) = true
is_access (Get offset bytes) = true
is_access Touch = true
is_access _ = false

-- the access that a note is to a root, if it is present
abbrev pub touched : Bool → ℕ × Did → List Access
touched live e = if live && is_access e.1 then access_by e ∷ [] else []

-- these notes as accesses
abbrev pub accesses_in : List Done → List Access
accesses_in dones = map access_by (dones_in dones)

-- the accesses that are kept, and how many are not
abbrev pub kept_by : Bool → List Access → List Access
kept_by keeps all = if keeps then kept_of all else []

-- how many accesses are not kept
abbrev pub dropped_by : Bool → List Access → ℕ
dropped_by keeps all = if keeps then dropped_of all else 0

-- the capacity that a root has at the end
abbrev pub capacity_by : Histories → RootId → ℕ
capacity_by m root =
    capacity_in root
    (present_in (place_after root.place (dids (history_in m (Root root.place)))))

-- the report of a root with this capacity, these sums and accesses
abbrev pub leak_by : Level → ℕ → ℕ → ℕ → Totals → List Access → Leak
leak_by level lane serial capacity sums all =
    record {
      lane = lane;
      serial = serial;
      capacity = capacity;
      count = (1 + sums.retains) - sums.releases;
      records = kept_by (keeps_records level) all;
      dropped = dropped_by (keeps_records level) all;
    }

-- what is reported of a root, if it is live and sampled
abbrev pub one_leak : Shape → Histories → List Tally → ℕ → ℕ → RootId → List Leak
one_leak shape m tallies lane serial root =
    let sums = total_sums tallies root in
    let all = accesses root false (history_in m (Root root.place)) in
    if not ((1 + sums.retains) - sums.releases == 0) && is_sampled shape.level shape.interval serial
    then leak_by shape.level lane serial (capacity_by m root) sums all ∷ []
    else []

-- what is reported of the roots born in these notes, from this serial on
abbrev pub leaks_by : Shape → Histories → List Tally → ℕ → ℕ → List RootId → List Leak
leaks_by shape m tallies lane serial [] = []
leaks_by shape m tallies lane serial (root ∷ roots) =
    one_leak shape m tallies lane serial root ++ leaks_by shape m tallies lane (serial + 1) roots

-- what is reported of the roots born in these notes, from this serial on
abbrev pub leaks_in : Shape → Histories → List Tally → ℕ → ℕ → List Note → List Leak
leaks_in shape m tallies lane serial ns = leaks_by shape m tallies lane serial (births ns)

-- what is reported of the lanes from this one on
abbrev pub all_leaks : Shape → Histories → List Tally → ℕ → List LaneLog → List Leak
all_leaks shape m tallies lane [] = []
all_leaks shape m tallies lane (log ∷ logs) =
    leaks_in shape m tallies lane 1 log.notes ++ all_leaks shape m tallies (lane + 1) logs

-- a report that is read up to a place goes on with these, up to the next place
abbrev pub GoesOn : List Leak → ℕ → List Leak → ℕ → Type 0
GoesOn report at these next =
    (take next report ≡ take at report ++ these) × (next ≤ length report)

-- a report that is read up to a place differs from each that goes on with these, first at another place
abbrev pub Strays : List Leak → ℕ → List Leak → ℕ → Type 0
Strays report at these other =
    (more : List Leak) → DifferAt report (take at report ++ (these ++ more)) other
