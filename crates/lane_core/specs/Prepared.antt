-- What a command needs before its first note.
use Rattle.std.specs.Prelude.{length}
use Rattle.pool_law.specs.declared.command.Command.{Command}
use Rattle.pool_law.specs.LaneStates.{LaneState}
use Rattle.lane_context.specs.declared.context.Context.{Context}
use Rattle.lane_core.specs.declared.prepared.Prepared.{Prepared}
use Rattle.lane_core.specs.declared.prepared.Prepared.TheVariants.{Work, Access, Alone}
use Rattle.lane_plans.specs.Reaching.{BindsBelow}
use Rattle.lane_context.specs.Accesses.{IsAccess, IsPrepared, IsState}
use Rattle.lane_context.specs.Works.{IsPlanned, IsReady, IsUnplanned}

-- it is what the command needs at the context
abbrev pub IsPreparedFor : Context → Command → Prepared → Type 0
IsPreparedFor d command (Work work) =
    IsReady d work
    × ((s : LaneState) → IsState s d.names d.counts → IsPlanned d command work s)
IsPreparedFor d command (Access access) =
    ((s : LaneState) → IsState s d.names d.counts →
    IsPrepared d.names d.counts command access s)
    × BindsBelow (length d.names) access × IsAccess command
IsPreparedFor d command Alone = (IsAccess command → ⊥) × IsUnplanned d.names command
