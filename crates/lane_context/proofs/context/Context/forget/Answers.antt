use Rattle.std.proofs.Common.{List, [], sym, subst, Option}
use Rattle.pool_law.specs.declared.command.Command.{Command}
use Rattle.pool_law.specs.declared.run.Reply.{Reply}
use Rattle.lane_context.specs.declared.context.Stage.TheVariants.{Ready}
use Rattle.lane_context.specs.declared.context.Turn.{Turn}
use Rattle.lane_context.specs.Contexts.{left_for, HasTurned}
use Rattle.lane_context.specs.ContextSteps.{HasReplied}
use Rattle.pool_law.specs.Refusals.{unbound}
use Rattle.pool_law.specs.Names.{Bound}
use Rattle.lane_context.specs.Named.{bound_of}
use Rattle.shared_pool.specs.SeatLanes.{lane_of}
use Rattle.lane_context.specs.declared.access.Refusal.TheVariants.{Unbound}
use Rattle.lane_context.proofs.StateReads.{comes_first, is_unbound, refuses}
use Rattle.lane_context.proofs.Turning.{refused_turn}
use Rattle.lane_context.proofs.Commands.{forget_turn}
use Rattle.lane_context.proofs.context.Context.forget.Goals as goal

pub answer-requires : goal.answer-requires
answer-requires c = record { begun = c.requires.may.begun; few = c.requires.may.few; room = c.requires.may.room }

pub returns-in_default : goal.returns-in_default
returns-in_default c = λ pool may s state.
    let old = c.args.self.now in let new = c.answer.new.self in let command = Command.Forget c.args.name in
    subst (λ (t : Turn). HasTurned pool old new s command Ready t) (sym c.answer.ensures.ready)
    (forget_turn pool c.args.name old new may c.requires.name (bound_of c.in_default.field-0.now)
    c.in_default.ensures.bound
    (subst (λ (names : List (Option Bound)). HasReplied (record old { names = names }) new Reply.Ok) c.unbind.ensures
    c.answer.ensures.replied) s state)

pub returns : goal.returns
returns c = λ pool may s state.
    let old = c.args.self.now in let new = c.refuse.new.self in let command = Command.Forget c.args.name in
    subst (λ (t : Turn). HasTurned pool old new s command Ready t) (sym c.refuse.ensures.ready)
    (refused_turn pool (left_for old.composes command) old new may Unbound c.refuse.ensures.replied s command
    state.names_are
    (refuses s old.names old.counts state old.shape (lane_of old.seat) command Reply.Unbound
    (comes_first (unbound s c.args.name) []
    (is_unbound s old.names old.counts state c.args.name c.in-None.ensures.unbound))))
