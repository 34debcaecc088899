-- A run is legal where what the check computes of it is what the run says.
use Rattle.std.proofs.Common.{◌≡◌, inl, inr, ℕ, ◌*◌, ◌^◌, ◌<◌, List, [], ◌∷◌, length, Bool, true, refl, sym, ap}
use Rattle.std.specs.Prelude.{◌⊎◌, ◌==◌, ◌||◌, ◌&&◌, nat_le, sum, map, take, drop, Option, Some, None, option_map, is_some}
use Rattle.std.specs.List.{list_all}
use Rattle.std.proofs.lemmas.Bool.{eqb-true, leb-true, or_cases}
use Rattle.size_classes.specs.Sizes.{IsPage, below, chunk_bytes}
use Rattle.pool_law.specs.declared.note.Object.{Object}
use Rattle.pool_law.specs.declared.note.Did.{Did}
use Rattle.pool_law.specs.declared.id.RootId.{RootId}
use Rattle.pool_law.specs.declared.id.Parcel.{Parcel}
use Rattle.pool_law.specs.declared.command.Command.{Command}
use Rattle.pool_law.specs.declared.report.ChunkEnd.{ChunkEnd}
use Rattle.pool_law.specs.declared.report.Leak.{Leak}
use Rattle.pool_law.specs.declared.run.Shape.{Shape}
use Rattle.pool_law.specs.declared.run.Reply.{Reply}
use Rattle.pool_law.specs.declared.run.Run.{Run}
use Rattle.pool_law.specs.Limits.{IsShape, geometry_of}
use Rattle.pool_law.specs.Logs.{Logs, ToldNote, of_lane, note_stands, entries_of}
use Rattle.pool_law.specs.Readers.{ToldNotes}
use Rattle.pool_law.specs.LaneStates.{LaneState, new_lane}
use Rattle.pool_law.specs.LaneLaw.{sweep_period, lane_run, before_stop, stopped_run, pieces, behind, note_counts, replies_in, closes, IsLaneLog}
use Rattle.pool_law.specs.Leaks.{leaks_of}
use Rattle.pool_law.specs.Legal.{AreCommands, all_fit, logs_of, replies_of, ends_from, IsLegal}
use Rattle.pool_law.proofs.SameLemmas.{and-first, and-second}
use Rattle.definition_rows.proofs.Lanes.{all_from, all_lanes, each_from, each_lane}
use Rattle.definition_rows.proofs.HistoriesComputed.{objects_of, objects_pass, object_passes, noted_at, numbered_at, post_numbers, numbers_wanted, fetches_at, fetches_wanted, histories}
use Rattle.definition_rows.proofs.RootTests.{roots_of, roots_pass, root_passes}
use Rattle.definition_rows.proofs.CountsComputed.{counts}
use Rattle.definition_rows.proofs.MarksComputed.{object_marks, marks_pass, busy}

-- ---- What the check computes.

-- a page has one of the sizes
abbrev pub page_passes : ℕ → Bool
page_passes page = (page == 4096) || ((page == 8192) || ((page == 16384) || (page == 32768)))

-- the measures are inside their limits
abbrev pub measures_pass : Shape → List Bool
measures_pass s =
    page_passes s.page
    ∷ nat_le 3 s.order
    ∷ nat_le s.order 11
    ∷ nat_le (chunk_bytes (geometry_of s)) (2 ^ 24)
    ∷ nat_le 1 s.arenas
    ∷ nat_le s.arenas 8
    ∷ nat_le 1 s.chunks
    ∷ nat_le s.chunks 8
    ∷ nat_le (s.arenas * (s.chunks * chunk_bytes (geometry_of s))) (2 ^ 29)
    ∷ nat_le 1 s.handles
    ∷ nat_le s.handles 4096
    ∷ nat_le 1 s.lanes
    ∷ nat_le s.lanes 16
    ∷ nat_le 1 s.interval
    ∷ nat_le s.interval 65536
    ∷ []

-- the commands of a lane fit
abbrev pub commands_pass : Shape → ℕ → List Command → Bool
commands_pass shape lane commands = nat_le (length commands) 65536 && all_fit shape [] commands

-- the notes that the replies of a lane own are there, and its last notes close its caches
abbrev pub lane_passes : Run → ℕ → Bool
lane_passes run lane =
    nat_le (sum (note_counts (replies_of run lane))) (length (of_lane (entries_of (logs_of run)) lane))
    && is_some (closes lane (behind (note_counts (replies_of run lane)) (of_lane (entries_of (logs_of run)) lane)))

-- how many commands of a lane were answered before it was stopped
abbrev pub answered_in : Run → ℕ → ℕ
answered_in run lane = before_stop (replies_in (replies_of run lane))

-- the notes of each command of a lane
abbrev pub groups_in : Run → ℕ → List ToldNotes
groups_in run lane = pieces (note_counts (replies_of run lane)) (of_lane (entries_of (logs_of run)) lane)

-- the replies that the notes of a lane give, before it was stopped
abbrev pub replies_given : Run → ℕ → Option (List Reply)
replies_given run lane =
    option_map (λ p. p.0)
    (lane_run sweep_period run.shape lane new_lane
    (take (answered_in run lane) (of_lane run.trace.lanes lane)) (take (answered_in run lane) (groups_in run lane)))

-- the replies of a lane before it was stopped
abbrev pub replies_said : Run → ℕ → Option (List Reply)
replies_said run lane = Some (take (answered_in run lane) (replies_in (replies_of run lane)))

-- the replies that the notes of a lane give from then on
abbrev pub stops_given : Run → ℕ → Option (List Reply)
stops_given run lane =
    stopped_run lane
    (drop (answered_in run lane) (of_lane run.trace.lanes lane)) (drop (answered_in run lane) (groups_in run lane))

-- the replies of a lane from then on
abbrev pub stops_said : Run → ℕ → Option (List Reply)
stops_said run lane = Some (drop (answered_in run lane) (replies_in (replies_of run lane)))

-- what is found in a run, and what is to be found
pub record Findings : Type 0 where
  pub measures : List Bool
  pub lanes : ℕ × ℕ
  pub commands : Bool
  pub objects_named : Bool
  pub objects : List Bool
  pub histories : List (List (List (ℕ × Did)))
  pub post_numbers : List (List ℕ)
  pub fetches : List (List (ℕ × Parcel))
  pub stand : Bool
  pub roots_named : Bool
  pub roots : List Bool
  pub lane_logs : List Bool
  pub replies : List (Option (List Reply))
  pub stops : List (Option (List Reply))
  pub fit : List Bool
  pub marks : Bool
  pub chunks : List ChunkEnd
  pub leaks : List Leak

-- as many tests that pass
abbrev pub yes_to : {X : Type 0} → List X → List Bool
yes_to xs = map (λ _. true) xs

-- what is found in a run whose notes name these objects and roots
abbrev pub found_in : Run → Logs → List (List ToldNote) → List Object → List RootId → Findings
found_in run logs entries objects roots =
    record {
      measures = measures_pass run.shape;
      lanes = (length run.trace.lanes, length run.logs);
      commands = all_from (commands_pass run.shape) 0 run.trace.lanes;
      objects_named = all_from (objects_pass objects) 0 logs;
      objects = map (object_passes run.shape logs) objects;
      histories = map (noted_at logs) objects;
      post_numbers = map (post_numbers logs) objects;
      fetches = map (fetches_at logs) objects;
      stand = all_from (λ lane log. list_all (note_stands run.shape lane) log) 0 logs;
      roots_named = all_from (roots_pass roots) 0 entries;
      roots = map (root_passes entries) roots;
      lane_logs = each_from (lane_passes run) 0 run.shape.lanes;
      replies = each_from (replies_given run) 0 run.shape.lanes;
      stops = each_from (stops_given run) 0 run.shape.lanes;
      fit = map (object_marks logs) objects;
      marks = all_from (marks_pass logs) 0 logs;
      chunks = ends_from run.shape logs (below run.shape.arenas);
      leaks = leaks_of run.shape logs;
    }

-- what is to be found
abbrev pub wanted_in : Run → Logs → List Object → List RootId → Findings
wanted_in run logs objects roots =
    record {
      measures = yes_to (measures_pass run.shape);
      lanes = (run.shape.lanes, run.shape.lanes);
      commands = true;
      objects_named = true;
      objects = yes_to objects;
      histories = map (numbered_at logs) objects;
      post_numbers = map (numbers_wanted logs) objects;
      fetches = map (fetches_wanted logs) objects;
      stand = true;
      roots_named = true;
      roots = yes_to roots;
      lane_logs = each_from (λ _. true) 0 run.shape.lanes;
      replies = each_from (replies_said run) 0 run.shape.lanes;
      stops = each_from (stops_said run) 0 run.shape.lanes;
      fit = yes_to objects;
      marks = true;
      chunks = run.chunks;
      leaks = run.leaks;
    }

-- what is found in a run
abbrev pub found : Run → Findings
found run =
    let entries = entries_of (logs_of run) in
    found_in run (logs_of run) entries (objects_of (logs_of run) []) (roots_of entries [])

-- what is to be found in it
abbrev pub wanted : Run → Findings
wanted run = wanted_in run (logs_of run) (objects_of (logs_of run) []) (roots_of (entries_of (logs_of run)) [])

-- ---- A run is legal where the two are the same.

page-passes : (page : ℕ) → page_passes page ≡ true → IsPage page
page-passes page e = first (or_cases (page == 4096) ((page == 8192) || ((page == 16384) || (page == 32768))) e)
  where
    last : ((page == 16384) ≡ true) ⊎ ((page == 32768) ≡ true) → IsPage page
    last (inl is) = inr (inr (inl (eqb-true page 16384 is)))
    last (inr is) = inr (inr (inr (eqb-true page 32768 is)))

    second : ((page == 8192) ≡ true) ⊎ (((page == 16384) || (page == 32768)) ≡ true) → IsPage page
    second (inl is) = inr (inl (eqb-true page 8192 is))
    second (inr rest) = last (or_cases (page == 16384) (page == 32768) rest)

    first : ((page == 4096) ≡ true) ⊎ (((page == 8192) || ((page == 16384) || (page == 32768))) ≡ true) → IsPage page
    first (inl is) = inl (eqb-true page 4096 is)
    first (inr rest) = second (or_cases (page == 8192) ((page == 16384) || (page == 32768)) rest)

shape-passes : (s : Shape) → measures_pass s ≡ yes_to (measures_pass s) → IsShape s
shape-passes s e = record {
  page = page-passes s.page cc;
  order_least = leb-true 3 s.order cc;
  order_most = leb-true s.order 11 cc;
  chunk = leb-true (chunk_bytes (geometry_of s)) (2 ^ 24) cc;
  arenas_least = leb-true 1 s.arenas cc;
  arenas_most = leb-true s.arenas 8 cc;
  chunks_least = leb-true 1 s.chunks cc;
  chunks_most = leb-true s.chunks 8 cc;
  memory = leb-true (s.arenas * (s.chunks * chunk_bytes (geometry_of s))) (2 ^ 29) cc;
  handles_least = leb-true 1 s.handles cc;
  handles_most = leb-true s.handles 4096 cc;
  lanes_least = leb-true 1 s.lanes cc;
  lanes_most = leb-true s.lanes 16 cc;
  interval_least = leb-true 1 s.interval cc;
  interval_most = leb-true s.interval 65536 cc;
}

closes-passes : (o : Option (Unit {0})) → is_some o ≡ true → o ≡ Some tt
closes-passes None e = absurd (cc e)
closes-passes (Some u) e = refl

-- what a run of a lane gives beside its replies
last-given : {X Y : Type 0} (o : Option (X × Y)) (x : X) → option_map (λ p. p.0) o ≡ Some x →
    (last : Y) × (o ≡ Some (x, last))
last-given None x e = absurd (cc e)
last-given (Some p) x e = let same : p.0 ≡ x = cc e in (p.1, λ i. Some (same i, p.1))

module _ (run : Run) (same : found run ≡ wanted run) where
  -- the notes
  abbrev logs : Logs
  logs = logs_of run

  -- the entries
  abbrev entries : List (List ToldNote)
  entries = entries_of (logs_of run)

  -- the objects that they name
  abbrev objects : List Object
  objects = objects_of (logs_of run) []

  -- the roots that they name
  abbrev roots : List RootId
  roots = roots_of (entries_of (logs_of run)) []

  commands-fit : (lane : ℕ) → AreCommands run.shape (of_lane run.trace.lanes lane)
  commands-fit lane =
      let cs : List Command = of_lane run.trace.lanes lane in
      let both : (nat_le (length cs) 65536 && all_fit run.shape [] cs) ≡ true =
      all_lanes (commands_pass run.shape) (λ k. refl) run.trace.lanes (ap (λ f. f.commands) same) lane in
      record {
        few = leb-true (length cs) 65536 (and-first _ _ both);
        fit = and-second _ _ both;
      }

  lane_log : (lane : ℕ) → lane < run.shape.lanes →
      IsLaneLog run.shape lane (of_lane run.trace.lanes lane) (replies_of run lane) (of_lane entries lane)
  lane_log lane below =
      let es : ToldNotes = of_lane entries lane in
      let ns : List ℕ = note_counts (replies_of run lane) in
      let counted : Bool = nat_le (sum ns) (length es) in
      let last : Bool = is_some (closes lane (behind ns es)) in
      let both : (counted && last) ≡ true =
      each_lane (lane_passes run) (λ _. true) run.shape.lanes (ap (λ f. f.lane_logs) same) lane below in
      let given : replies_given run lane ≡ replies_said run lane =
      each_lane (replies_given run) (replies_said run) run.shape.lanes (ap (λ f. f.replies) same) lane below in
      let stops : stops_given run lane ≡ stops_said run lane =
      each_lane (stops_given run) (stops_said run) run.shape.lanes (ap (λ f. f.stops) same) lane below in
      let n : ℕ = answered_in run lane in
      let answered : Option (List Reply × LaneState) =
      lane_run sweep_period run.shape lane new_lane
      (take n (of_lane run.trace.lanes lane)) (take n (groups_in run lane)) in
      let whole : (s : LaneState) × (answered ≡ Some (take n (replies_in (replies_of run lane)), s)) =
      last-given answered (take n (replies_in (replies_of run lane))) given in
      record {
        counted = leb-true (sum ns) (length es) (and-first counted last both);
        last = whole.0;
        answered = whole.1;
        stopped = stops;
        closed = closes-passes (closes lane (behind ns es)) (and-second counted last both);
      }

  pub legal : IsLegal run
  legal = record {
    shape = shape-passes run.shape (ap (λ f. f.measures) same);
    lanes = ap (λ f. f.lanes.0) same;
    logs = ap (λ f. f.lanes.1) same;
    commands = commands-fit;
    histories =
        histories run.shape logs objects (ap (λ f. f.objects_named) same) (ap (λ f. f.objects) same)
        (ap (λ f. f.histories) same) (ap (λ f. f.post_numbers) same) (ap (λ f. f.fetches) same)
        (ap (λ f. f.stand) same);
    counts = counts entries roots (ap (λ f. f.roots_named) same) (ap (λ f. f.roots) same);
    answers = lane_log;
    busy = busy logs objects (ap (λ f. f.objects_named) same) (ap (λ f. f.fit) same) (ap (λ f. f.marks) same);
    chunks = sym (ap (λ f. f.chunks) same);
    leaks = sym (ap (λ f. f.leaks) same);
  }
