-- What a command that is to be begun has at its lane's context.
use Rattle.std.proofs.Common.{◌≡◌, ◌<◌, List, ◌∷◌, length, subst, arith}
use Rattle.std.specs.Prelude.{vec_capacity}
use Rattle.pool_law.specs.declared.command.Command.{Command}
use Rattle.shared_pool.specs.declared.pool.SharedPool.{SharedPool}
use Rattle.lane_context.specs.declared.access.Access.{Access}
use Rattle.lane_context.specs.declared.access.Access.TheVariants.{Refused, Set, Get}
use Rattle.lane_context.specs.declared.context.Context.{Context}
use Rattle.lane_context.specs.declared.context.Stage.{Stage}
use Rattle.lane_context.specs.declared.context.Stage.TheVariants.{Ready}
use Rattle.lane_core.specs.declared.lane.Lane.{Lane}
use Rattle.lane_plans.specs.Reaching.{BindsBelow}
use Rattle.lane_stages.specs.Budgets.{Left}
use Rattle.lane_context.specs.Contexts.{AccessFits, IsContext, hand_of, left_for}
use Rattle.lane_context.specs.ContextSteps.{MayTurn}
use Rattle.lane_core.specs.Lanes.{IsRunningLane, commands_left}
use Rattle.lane_context.specs.Works.{IsWithin}
use Rattle.lane_core.proofs.LaneLogs.{cut_more}
use Rattle.lane_core.proofs.LaneRooms.{room_most}
use Rattle.lane_core.proofs.LaneTurns.{begin_asked, begin_room}

module _ (pool : SharedPool) (l : Lane) (lane : IsRunningLane pool l) (is : l.stage ≡ Ready) (command : Command)
    (later : List Command) (left : commands_left l ≡ command ∷ later) where
  pub begin_replies : length l.context.replies.items < vec_capacity l.context.replies
  begin_replies =
      let lt = (cut_more (length l.context.replies.items) l.commands command later left).2 in let most = lane.replies in
      omega (arith, lt, most)

  -- it may turn with what is planned of it
  pub begin_may : (less : Left) → IsWithin less (left_for l.context.composes command) → MayTurn pool less l.context
  begin_may less within = record {
    context = subst (λ (x : Stage). IsContext pool (hand_of x) l.context) is lane.context;
    room =
        room_most pool l.context (left_for l.context.composes command) less within.notes within.moves within.sends
        (begin_room pool l lane is command later left);
    replies = begin_replies;
    asked = begin_asked pool l lane is command later left;
  }

-- what may turn with more left may with less
pub may_within : (pool : SharedPool) (d : Context) (less more : Left) → MayTurn pool more d → IsWithin less more
    → MayTurn pool less d
may_within pool d less more may within = record {
  context = may.context;
  room = room_most pool d more less within.notes within.moves within.sends may.room;
  replies = may.replies;
  asked = may.asked;
}

-- an access binds a name of the context
pub access_fits : (d : Context) (access : Access) → BindsBelow (length d.names) access → AccessFits d access
access_fits d (Refused refusal) below = tt
access_fits d (Set reach bytes) below = below
access_fits d (Get reach note reply) below = below
