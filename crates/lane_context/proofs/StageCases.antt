-- The cases of stages: the beginning, the closing, and as one case those of a command under way.
use Rattle.std.proofs.Common.{◌≡◌, Bool, List, refl}
use Rattle.pool_law.specs.declared.command.Command.{Command}
use Rattle.pool_law.specs.declared.note.Held.{Held}
use Rattle.pool_law.specs.LaneStates.{LaneState}
use Rattle.pool_law.specs.Lanes.{Answer}
use Rattle.pool_law.specs.Readers.{Log, Reader}
use Rattle.pool_table.specs.declared.views.Entry.{Entry}
use Rattle.pool_table.specs.declared.views.SeatView.{SeatView}
use Rattle.lane_context.specs.declared.context.Context.{Context}
use Rattle.lane_context.specs.declared.context.Stage.{Stage}
use Rattle.lane_context.specs.declared.context.Stage.TheVariants.{Ready, Allotting, Ending, Sweeping, Closing, Crossing, Parting, Consolidating, Copying, Replacing, Growing}
use Rattle.lane_context.specs.declared.context.Turn.TheVariants.{Went, Pending}
use Rattle.lane_stages.specs.declared.draining.Draining.{Draining}
use Rattle.lane_context.specs.Contexts.{IsUnderway, ComesTo, GoesOn, Waits, left_after, left_now}
use Rattle.lane_context.specs.Readings.{renamed}

module _ (P : Stage → Type 0) (ready : P Ready) (closing : (at : Draining) → P (Closing at))
    (under : (stage : Stage) → IsUnderway stage → P stage) where
  pub by_kind : (stage : Stage) → P stage
  by_kind Ready = ready
  by_kind (Closing at) = closing at
  by_kind (Allotting name size class at) = under (Allotting name size class at) tt
  by_kind (Ending at) = under (Ending at) tt
  by_kind (Sweeping reply at) = under (Sweeping reply at) tt
  by_kind (Crossing name marks at) = under (Crossing name marks at) tt
  by_kind (Parting name at) = under (Parting name at) tt
  by_kind (Consolidating p at) = under (Consolidating p at) tt
  by_kind (Copying name whole parts at) = under (Copying name whole parts at) tt
  by_kind (Replacing name whole at) = under (Replacing name whole at) tt
  by_kind (Growing name it size class at) = under (Growing name it size class at) tt

-- what is left after a turn that comes to it
pub left_on : (composes : Bool) (command : Command) (stage next : Stage) (v : SeatView) → IsUnderway next
    → left_after composes command stage (Went next) v ≡ left_now composes command next v
left_on composes command stage Ready v u = absurd u
left_on composes command stage (Closing at) v u = refl
left_on composes command stage (Allotting name size class at) v u = refl
left_on composes command stage (Ending at) v u = refl
left_on composes command stage (Sweeping reply at) v u = refl
left_on composes command stage (Crossing name marks at) v u = refl
left_on composes command stage (Parting name at) v u = refl
left_on composes command stage (Consolidating p at) v u = refl
left_on composes command stage (Copying name whole parts at) v u = refl
left_on composes command stage (Replacing name whole at) v u = refl
left_on composes command stage (Growing name it size class at) v u = refl

-- ---- A turn that comes to such a stage.

module _ (reads : LaneState → Stage → Reader Answer) (s : LaneState) (old new : Context) (added : List Entry)
    (stage : Stage) where
  -- it goes on there, and so it is what a turn may come to
  pub went_on : (next : Stage) → IsUnderway next → ComesTo reads s old new added stage (Went next)
      → GoesOn old new added (reads s stage) (λ names. reads (renamed s names) next)
  went_on Ready u t = absurd u
  went_on (Closing at) u t = absurd u
  went_on (Allotting name size class at) u t = t
  went_on (Ending at) u t = t
  went_on (Sweeping reply at) u t = t
  went_on (Crossing name marks at) u t = t
  went_on (Parting name at) u t = t
  went_on (Consolidating p at) u t = t
  went_on (Copying name whole parts at) u t = t
  went_on (Replacing name whole at) u t = t
  went_on (Growing name it size class at) u t = t

  pub on_went : (next : Stage) → IsUnderway next → GoesOn old new added (reads s stage)
      (λ names. reads (renamed s names) next)
      → ComesTo reads s old new added stage (Went next)
  on_went Ready u t = absurd u
  on_went (Closing at) u t = absurd u
  on_went (Allotting name size class at) u t = t
  on_went (Ending at) u t = t
  on_went (Sweeping reply at) u t = t
  on_went (Crossing name marks at) u t = t
  on_went (Parting name at) u t = t
  on_went (Consolidating p at) u t = t
  on_went (Copying name whole parts at) u t = t
  on_went (Replacing name whole at) u t = t
  on_went (Growing name it size class at) u t = t

  -- it waits there
  pub waits_on : (held : Held) (next : Stage) → IsUnderway next
      → ComesTo reads s old new added stage (Pending held next)
      → ((log : Log) → reads s stage log ≡ reads s next log) × Waits old new added
  waits_on held Ready u t = absurd u
  waits_on held (Closing at) u t = absurd u
  waits_on held (Allotting name size class at) u t = t
  waits_on held (Ending at) u t = t
  waits_on held (Sweeping reply at) u t = t
  waits_on held (Crossing name marks at) u t = t
  waits_on held (Parting name at) u t = t
  waits_on held (Consolidating p at) u t = t
  waits_on held (Copying name whole parts at) u t = t
  waits_on held (Replacing name whole at) u t = t
  waits_on held (Growing name it size class at) u t = t

  pub on_waits : (held : Held) (next : Stage) → IsUnderway next
      → ((log : Log) → reads s stage log ≡ reads s next log) × Waits old new added
      → ComesTo reads s old new added stage (Pending held next)
  on_waits held Ready u t = absurd u
  on_waits held (Closing at) u t = absurd u
  on_waits held (Allotting name size class at) u t = t
  on_waits held (Ending at) u t = t
  on_waits held (Sweeping reply at) u t = t
  on_waits held (Crossing name marks at) u t = t
  on_waits held (Parting name at) u t = t
  on_waits held (Consolidating p at) u t = t
  on_waits held (Copying name whole parts at) u t = t
  on_waits held (Replacing name whole at) u t = t
  on_waits held (Growing name it size class at) u t = t
