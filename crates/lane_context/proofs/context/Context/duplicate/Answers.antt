use Rattle.std.proofs.Common.{List, [], sym, ap, ◌∙◌, subst, Option, Some}
use Rattle.std.specs.Prelude.{slice_set}
use Rattle.pool_law.specs.declared.command.Command.{Command}
use Rattle.pool_law.specs.declared.id.ViewData.{ViewData}
use Rattle.pool_law.specs.declared.run.Reply.{Reply}
use Rattle.pool_law.specs.Names.{Bound, Plain}
use Rattle.lane_context.specs.declared.context.Stage.TheVariants.{Ready}
use Rattle.lane_context.specs.declared.context.Turn.{Turn}
use Rattle.shared_pool.specs.SeatLanes.{lane_of}
use Rattle.lane_context.specs.Contexts.{left_for, HasTurned}
use Rattle.lane_context.specs.ContextSteps.{HasReplied}
use Rattle.lane_context.specs.Accesses.{reply_for}
use Rattle.lane_context.proofs.StateReads.{refused_fresh, refuses}
use Rattle.lane_context.proofs.Turning.{refused_turn}
use Rattle.lane_context.proofs.Commands.{bound_turn, reads_duplicate, view_lies}
use Rattle.lane_context.proofs.context.Context.duplicate.Goals as goal

pub answer-requires : goal.answer-requires
answer-requires c = record { begun = c.requires.may.begun; few = c.requires.may.few; room = c.requires.may.room }

pub returns-in-Err : goal.returns-in-Err
returns-in-Err c = λ pool may s state.
    let old = c.args.self.now in let new = c.refuse.new.self in let fresh = c.args.fresh in let name = c.args.name in
    let command = Command.Dup fresh name in
    subst (λ (t : Turn). HasTurned pool old new s command Ready t) (sym c.refuse.ensures.ready)
    (refused_turn pool (left_for old.composes command) old new may c.in-Err.refusal c.refuse.ensures.replied s command
    state.names_are
    (refuses s old.names old.counts state old.shape (lane_of old.seat) command (reply_for c.in-Err.refusal)
    (refused_fresh s old.names old.counts state name fresh c.in-Err.refusal c.in-Err.ensures.refused [])))

pub returns : goal.returns
returns c = λ pool may s state.
    let old = c.args.self.now in let new = c.answer.new.self in let fresh = c.args.fresh in let name = c.args.name in
    let v : ViewData = c.in-Ok.view.now.at in let ok = c.in-Ok.ensures.ok in
    subst (λ (t : Turn). HasTurned pool old new s (Command.Dup fresh name) Ready t) (sym c.answer.ensures.ready)
    (bound_turn pool fresh old new may.context may.asked c.requires.name v
    (view_lies old name v may.context.inside ok.0)
    (subst (λ (names : List (Option Bound)). HasReplied (record old { names = names }) new Reply.Ok)
    (c.bind.ensures ∙ ap (λ (w : ViewData). slice_set old.names fresh (Some (Plain w))) c.duplicate-view.ensures)
    c.answer.ensures.replied) s state.names_are (Command.Dup fresh name)
    (reads_duplicate old.shape (lane_of old.seat) s old.names old.counts state fresh name v ok.0 ok.1 ok.2))
