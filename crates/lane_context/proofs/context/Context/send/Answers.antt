use Rattle.std.proofs.Common.{sym, subst}
use Rattle.pool_law.specs.declared.command.Command.{Command}
use Rattle.pool_law.specs.declared.id.ViewData.{ViewData}
use Rattle.lane_context.specs.declared.context.Stage.TheVariants.{Ready}
use Rattle.lane_context.specs.declared.context.Turn.{Turn}
use Rattle.lane_context.specs.Contexts.{HasTurned}
use Rattle.lane_context.proofs.Commands.{view_lies}
use Rattle.lane_context.proofs.PostTurns.{can_answer_posted, send_turn, unsent_turn}
use Rattle.lane_context.proofs.context.Context.send.Goals as goal

pub post-requires-clause-known : goal.post-requires-clause-known
post-requires-clause-known g c =
    view_lies c.args.self.now c.args.name c.in-Ok.view.now.at c.requires.may.context.inside c.in-Ok.ensures.ok.0

pub answer-requires : goal.answer-requires
answer-requires g c =
    let can = can_answer_posted c.args.pool.now c.args.name c.args.lane c.args.self.now c.post.new.self c.requires.may _
    c.post.ensures in
    record { begun = can.begun; few = can.few; room = can.room }

pub returns-in-Ok : goal.returns-in-Ok
returns-in-Ok g c = λ s state.
    let pool = c.args.pool.now in let old = c.args.self.now in let mid = c.post.new.self in let new =
    c.answer.new.self in
    let v : ViewData = c.in-Ok.view.now.at in let ok = c.in-Ok.ensures.ok in
    subst (λ (t : Turn). HasTurned pool old new s (Command.Send c.args.name c.args.lane) Ready t)
    (sym c.answer.ensures.ready)
    (send_turn pool c.args.name c.args.lane old mid new c.requires.may s state v ok.0 ok.1 c.post.ensures
    c.take.new.self
    (record { counts = c.take.ensures.counts; places = c.take.ensures.places }) c.answer.ensures.replied)

pub refuse-requires : goal.refuse-requires
refuse-requires g c =
    can_answer_posted c.args.pool.now c.args.name c.args.lane c.args.self.now c.post-in-Err.new.self c.requires.may _
    c.post-in-Err.ensures

pub returns-in-Err : goal.returns-in-Err
returns-in-Err g c = λ s state.
    let pool = c.args.pool.now in let old = c.args.self.now in let mid = c.post-in-Err.new.self in let new =
    c.refuse.new.self in
    subst (λ (t : Turn). HasTurned pool old new s (Command.Send c.args.name c.args.lane) Ready t)
    (sym c.refuse.ensures.ready)
    (unsent_turn pool c.args.name c.args.lane old mid new c.requires.may s state c.in-Err.refusal
    c.in-Err.ensures.refused c.post-in-Err.ensures c.refuse.ensures.replied)
