use Rattle.std.proofs.Common.{◌≡◌, ◌<◌, length, sym, subst}
use Rattle.std.specs.Prelude.{vec_capacity}
use Rattle.pool_law.specs.declared.command.Command.{Command}
use Rattle.shared_pool.specs.declared.pool.SharedPool.{SharedPool}
use Rattle.lane_context.specs.declared.context.Context.{Context}
use Rattle.lane_context.specs.declared.context.Stage.{Stage}
use Rattle.shared_pool.specs.SeatViews.{view_of}
use Rattle.lane_context.specs.Contexts.{Fits, HasRoomFor, IsContext, NameFits, hand_of, left_at}
use Rattle.lane_context.specs.ContextSteps.{MayGoOn, StageTurns}
use Rattle.lane_context.proofs.context.Context.go_on.Goals as goal

pub allot-requires-clause-room : goal.allot-requires-clause-room
allot-requires-clause-room c =
    let old = c.args.self.now in
    subst (λ (x : Stage). HasRoomFor c.args.pool.now old (left_at old.composes (Command.Retain 0) x (view_of old.seat)))
    c.in-Allotting.is (c.requires.room (Command.Retain 0))

pub end-requires-clause-room : goal.end-requires-clause-room
end-requires-clause-room c =
    let old = c.args.self.now in
    subst (λ (x : Stage). HasRoomFor c.args.pool.now old (left_at old.composes (Command.Retain 0) x (view_of old.seat)))
    c.in-Ending.is (c.requires.room (Command.Retain 0))

pub sweep-requires-clause-room : goal.sweep-requires-clause-room
sweep-requires-clause-room c =
    let old = c.args.self.now in
    subst (λ (x : Stage). HasRoomFor c.args.pool.now old (left_at old.composes (Command.Retain 0) x (view_of old.seat)))
    c.in-Sweeping.is (c.requires.room (Command.Retain 0))

-- a stage of a composite may go on as it is asked for
module _ (pool : SharedPool) (old : Context) (stage : Stage) (context : IsContext pool (hand_of stage) old)
    (fits : Fits pool old stage) (name : NameFits old stage)
    (room : (command : Command) → HasRoomFor pool old (left_at old.composes command stage (view_of old.seat)))
    (replies : length old.replies.items < vec_capacity old.replies) where
  may_go_on : (next : Stage) → stage ≡ next → MayGoOn pool next old
  may_go_on next is =
      subst (λ (x : Stage). MayGoOn pool x old) is
      (record { context = context; fits = fits; name = name; room = room; replies = replies })

pub cross-requires : goal.cross-requires
cross-requires c =
    record {
      may =
          may_go_on c.args.pool.now c.args.self.now c.args.stage c.requires.context c.requires.fits c.requires.name
          c.requires.room c.requires.replies _ c.in-Crossing.is;
    }

pub part-requires : goal.part-requires
part-requires c =
    record {
      may =
          may_go_on c.args.pool.now c.args.self.now c.args.stage c.requires.context c.requires.fits c.requires.name
          c.requires.room c.requires.replies _ c.in-Parting.is;
    }

pub consolidate-requires : goal.consolidate-requires
consolidate-requires c =
    record {
      may =
          may_go_on c.args.pool.now c.args.self.now c.args.stage c.requires.context c.requires.fits c.requires.name
          c.requires.room c.requires.replies _ c.in-Consolidating.is;
    }

pub copy-requires : goal.copy-requires
copy-requires c =
    record {
      may =
          may_go_on c.args.pool.now c.args.self.now c.args.stage c.requires.context c.requires.fits c.requires.name
          c.requires.room c.requires.replies _ c.in-Copying.is;
    }

pub replace-requires : goal.replace-requires
replace-requires c =
    record {
      may =
          may_go_on c.args.pool.now c.args.self.now c.args.stage c.requires.context c.requires.fits c.requires.name
          c.requires.room c.requires.replies _ c.in-Replacing.is;
    }

pub regrow-requires : goal.regrow-requires
regrow-requires c =
    record {
      may =
          may_go_on c.args.pool.now c.args.self.now c.args.stage c.requires.context c.requires.fits c.requires.name
          c.requires.room c.requires.replies _ c.in-Growing.is;
    }

pub returns-in-Growing : goal.returns-in-Growing
returns-in-Growing c =
    subst (λ (x : Stage). StageTurns c.args.pool.now c.args.self.now c.regrow.new.self x c.regrow.result)
    (sym c.in-Growing.is) c.regrow.ensures

pub returns-in-Consolidating : goal.returns-in-Consolidating
returns-in-Consolidating c =
    subst (λ (x : Stage). StageTurns c.args.pool.now c.args.self.now c.consolidate.new.self x c.consolidate.result)
    (sym c.in-Consolidating.is) c.consolidate.ensures

pub returns-in-Copying : goal.returns-in-Copying
returns-in-Copying c =
    subst (λ (x : Stage). StageTurns c.args.pool.now c.args.self.now c.copy.new.self x c.copy.result)
    (sym c.in-Copying.is) c.copy.ensures
