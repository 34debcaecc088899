-- What a command under way is not: a closing, or a lane at rest; and no turn that passes one over comes to it.
use Rattle.std.proofs.Common.{◌≡◌, Bool, List, refl}
use Rattle.pool_law.specs.declared.command.Command.{Command}
use Rattle.pool_law.specs.declared.note.Held.{Held}
use Rattle.pool_table.specs.declared.views.Entry.{Entry}
use Rattle.pool_table.specs.declared.views.SeatView.{SeatView}
use Rattle.lane_context.specs.declared.context.Context.{Context}
use Rattle.lane_context.specs.declared.context.Stage.{Stage}
use Rattle.lane_context.specs.declared.context.Stage.TheVariants.{Ready, Allotting, Ending, Sweeping, Closing, Crossing, Parting, Consolidating, Copying, Replacing, Growing}
use Rattle.lane_context.specs.declared.context.Turn.TheVariants.{Went, Pending}
use Rattle.lane_stages.specs.declared.draining.Draining.{Draining}
use Rattle.lane_context.specs.Contexts.{IsUnderway, ClosesTo, PassesTo, left_at}
use Rattle.lane_core.specs.Lanes.{IsAtRest, IsClosing}
use Rattle.lane_context.proofs.StageCases.{by_kind}

-- where it is neither of the first two, a command is under way
pub underway : (stage : Stage) → (stage ≡ Ready → ⊥) → ((x : Draining) → stage ≡ Closing x → ⊥) → IsUnderway stage
underway stage =
    by_kind (λ x. (x ≡ Ready → ⊥) → ((y : Draining) → x ≡ Closing y → ⊥) → IsUnderway x)
    (λ a b. absurd (a refl)) (λ at a b. absurd (b at refl)) (λ x u a b. u) stage

-- a command under way is no closing
pub no_closing : (stage : Stage) → IsUnderway stage → IsClosing stage → ⊥
no_closing Ready u closes = absurd u
no_closing (Closing at) u closes = absurd u
no_closing (Allotting name size class at) u closes = closes
no_closing (Ending at) u closes = closes
no_closing (Sweeping reply at) u closes = closes
no_closing (Crossing name marks at) u closes = closes
no_closing (Parting name at) u closes = closes
no_closing (Consolidating p at) u closes = closes
no_closing (Copying name whole parts at) u closes = closes
no_closing (Replacing name whole at) u closes = closes
no_closing (Growing name it size class at) u closes = closes

-- nor is the lane at rest then
pub no_rest : (stage : Stage) → IsUnderway stage → IsAtRest stage → ⊥
no_rest Ready u rest = absurd u
no_rest (Closing at) u rest = absurd u
no_rest (Allotting name size class at) u rest = rest
no_rest (Ending at) u rest = rest
no_rest (Sweeping reply at) u rest = rest
no_rest (Crossing name marks at) u rest = rest
no_rest (Parting name at) u rest = rest
no_rest (Consolidating p at) u rest = rest
no_rest (Copying name whole parts at) u rest = rest
no_rest (Replacing name whole at) u rest = rest
no_rest (Growing name it size class at) u rest = rest

-- what is left of it is the same for each command
pub same_left : (composes : Bool) (stage : Stage) (v : SeatView) → IsUnderway stage → (a b : Command)
    → left_at composes a stage v ≡ left_at composes b stage v
same_left composes Ready v u a b = absurd u
same_left composes (Closing at) v u a b = absurd u
same_left composes (Allotting name size class at) v u a b = refl
same_left composes (Ending at) v u a b = refl
same_left composes (Sweeping reply at) v u a b = refl
same_left composes (Crossing name marks at) v u a b = refl
same_left composes (Parting name at) v u a b = refl
same_left composes (Consolidating p at) v u a b = refl
same_left composes (Copying name whole parts at) v u a b = refl
same_left composes (Replacing name whole at) v u a b = refl
same_left composes (Growing name it size class at) v u a b = refl

-- ---- No turn that passes a command over, and none of the closing, comes to one.

module _ (old new : Context) (added : List Entry) (command : Command) where
  pub passes_none : (next : Stage) → IsUnderway next → PassesTo old new added command (Went next) → ⊥
  passes_none Ready u t = u
  passes_none (Closing at) u t = u
  passes_none (Allotting name size class at) u t = t
  passes_none (Ending at) u t = t
  passes_none (Sweeping reply at) u t = t
  passes_none (Crossing name marks at) u t = t
  passes_none (Parting name at) u t = t
  passes_none (Consolidating p at) u t = t
  passes_none (Copying name whole parts at) u t = t
  passes_none (Replacing name whole at) u t = t
  passes_none (Growing name it size class at) u t = t

module _ (stage after : Draining) (added : List Entry) where
  pub closes_none : (next : Stage) → IsUnderway next → ClosesTo stage (Went next) after added → ⊥
  closes_none Ready u t = u
  closes_none (Closing at) u t = u
  closes_none (Allotting name size class at) u t = t
  closes_none (Ending at) u t = t
  closes_none (Sweeping reply at) u t = t
  closes_none (Crossing name marks at) u t = t
  closes_none (Parting name at) u t = t
  closes_none (Consolidating p at) u t = t
  closes_none (Copying name whole parts at) u t = t
  closes_none (Replacing name whole at) u t = t
  closes_none (Growing name it size class at) u t = t

  pub closes_held : (held : Held) (next : Stage) → IsUnderway next → ClosesTo stage (Pending held next) after added → ⊥
  closes_held held Ready u t = u
  closes_held held (Closing at) u t = u
  closes_held held (Allotting name size class at) u t = t
  closes_held held (Ending at) u t = t
  closes_held held (Sweeping reply at) u t = t
  closes_held held (Crossing name marks at) u t = t
  closes_held held (Parting name at) u t = t
  closes_held held (Consolidating p at) u t = t
  closes_held held (Copying name whole parts at) u t = t
  closes_held held (Replacing name whole at) u t = t
  closes_held held (Growing name it size class at) u t = t
