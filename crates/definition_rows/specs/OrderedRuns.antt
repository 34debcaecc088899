-- Worked runs, each with an order of its steps.
use Rattle.std.specs.Prelude.{List, [], ◌∷◌, length, map}
use Rattle.pool_law.specs.declared.run.Run.{Run}
use Rattle.pool_law.specs.Logs.{of_lane}
use Rattle.pool_law.specs.Legal.{logs_of}
use Rattle.run_order.specs.Turns.{Turn, turn, InTurns}
use Rattle.definition_rows.specs.RootRuns.{nothing, smallest, request_zero, one_handle}
use Rattle.definition_rows.specs.ArenaRuns.{small_and_normal, merging, full_while_cached}
use Rattle.definition_rows.specs.ViewRuns.{slices, counting}
use Rattle.definition_rows.specs.LeakRuns.{leaking, leaking_by_default}
use Rattle.definition_rows.specs.CompositeRuns.{two_parts, consolidated}
use Rattle.definition_rows.specs.LaneRuns.{hand_over, sent_after_release, unfetched}
use Rattle.definition_rows.specs.BusyRuns.{tried, passed_by}
use Rattle.definition_rows.specs.StopRuns.{stopped_receiver, stopped_sender}

-- a run, and the turns of its lanes
pub record OrderedRun : Type 0 where
  pub run : Run
  pub turns : List Turn

abbrev pub ordered : Run → List Turn → OrderedRun
ordered run turns = record { run = run; turns = turns }

-- a run of one lane, in the order of its log
abbrev pub alone : Run → OrderedRun
alone run = ordered run (turn 0 (length (of_lane (logs_of run) 0)) ∷ [])

-- its logs are in one order, that of its turns
abbrev pub IsOrdered : OrderedRun → Type 0
IsOrdered r = InTurns r.turns (logs_of r.run)

-- the runs of one lane
abbrev pub one_lane : List OrderedRun
one_lane =
    map alone
    (nothing
    ∷ smallest
    ∷ request_zero
    ∷ one_handle
    ∷ small_and_normal
    ∷ merging
    ∷ full_while_cached
    ∷ slices
    ∷ counting
    ∷ leaking
    ∷ leaking_by_default
    ∷ two_parts
    ∷ consolidated
    ∷ [])

-- the sender up to its post, the receiver, and the sender as it closes
abbrev pub handed_over : OrderedRun
handed_over = ordered hand_over (turn 0 7 ∷ turn 1 47 ∷ turn 0 42 ∷ [])

-- the sender up to its empty parcel, the receiver, and the sender as it closes
abbrev pub sent_nothing : OrderedRun
sent_nothing = ordered sent_after_release (turn 0 11 ∷ turn 1 41 ∷ turn 0 42 ∷ [])

-- the other lane closes before the parcel comes that it never fetches
abbrev pub heard_nothing : OrderedRun
heard_nothing = ordered unfetched (turn 1 40 ∷ turn 0 46 ∷ [])

-- the other lane fetches the root and finds it held when this one has touched it not yet, and ends it
-- when this one has released it
abbrev pub found_held : OrderedRun
found_held = ordered tried (turn 0 7 ∷ turn 1 2 ∷ turn 0 2 ∷ turn 1 46 ∷ turn 0 42 ∷ [])

-- the other lane is about to put the region into the cache when this one finds that cache busy
abbrev pub found_busy : OrderedRun
found_busy = ordered passed_by (turn 0 6 ∷ turn 1 4 ∷ turn 0 5 ∷ turn 1 42 ∷ turn 0 42 ∷ [])

-- the lane that is stopped closes first
abbrev pub stopped_first : OrderedRun
stopped_first = ordered stopped_receiver (turn 1 40 ∷ turn 0 47 ∷ [])

-- the lane that is stopped up to its empty parcel, the receiver, and the stopped lane as it closes
abbrev pub stopped_at_send : OrderedRun
stopped_at_send = ordered stopped_sender (turn 0 7 ∷ turn 1 41 ∷ turn 0 40 ∷ [])

-- the runs of two lanes
abbrev pub two_lanes : List OrderedRun
two_lanes =
    handed_over
    ∷ sent_nothing
    ∷ heard_nothing
    ∷ found_held
    ∷ found_busy
    ∷ stopped_first
    ∷ stopped_at_send
    ∷ []
