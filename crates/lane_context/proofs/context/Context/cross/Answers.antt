use Rattle.std.proofs.Common.{ℕ, List, refl, sym, subst}
use Rattle.pool_law.specs.declared.command.Command.{Command}
use Rattle.pool_law.specs.declared.run.Reply.{Reply}
use Rattle.seat_work.specs.Hands.{empty_hand}
use Rattle.lane_context.specs.declared.context.Context.{Context}
use Rattle.lane_context.specs.declared.context.Stage.TheVariants.{Crossing}
use Rattle.lane_context.specs.declared.context.Turn.{Turn}
use Rattle.lane_stages.specs.Crossings as crossing
use Rattle.lane_context.specs.Contexts.{HasTurned}
use Rattle.lane_context.specs.ContextSteps.{HasReplied}
use Rattle.lane_context.proofs.CrossTurns.{cross_can, cross_goes, cross_waits, cross_was_got, cross_was_set, marked_can, may_cross}
use Rattle.lane_context.proofs.StageNeeds.{done_with, log_room}
use Rattle.lane_context.proofs.context.Context.cross.Goals as goal

pub cross-requires-clause-may : goal.cross-requires-clause-may
cross-requires-clause-may c =
    let may = c.requires.may in
    may_cross c.args.pool.now c.args.self.now c.args.stage may.context (may.room (Command.Retain 0)) may.fits.0

pub cross-requires-clause-room : goal.cross-requires-clause-room
cross-requires-clause-room c =
    let may = c.requires.may in
    log_room c.args.pool.now empty_hand c.args.self.now (crossing.left_of c.args.stage) may.context
    (may.room (Command.Retain 0))

pub returns-in-More : goal.returns-in-More
returns-in-More c = λ s command are.
    let may = c.requires.may in let old = c.args.self.now in let call = c.cross in let pool = c.args.pool.now in
    let stage = c.args.stage in
    let mid : Context = record old { seat = call.new.seat; notes = call.new.log } in
    cross_goes pool old mid stage may.context refl refl c.args.name c.args.marks may.name may.fits.1 s command are
    c.in-More.stage
    (subst (crossing.HasCrossed pool old.seat mid.seat old.notes mid.notes stage) c.in-More.is
    call.ensures)

pub returns-in-Held : goal.returns-in-Held
returns-in-Held c = λ s command are.
    let may = c.requires.may in let old = c.args.self.now in let call = c.cross in let pool = c.args.pool.now in
    let stage = c.args.stage in
    let mid : Context = record old { seat = call.new.seat; notes = call.new.log } in
    cross_waits pool old mid stage may.context refl refl c.args.name c.args.marks may.name may.fits.1 s command are
    c.in-Held.held c.in-Held.stage
    (subst (crossing.HasCrossed pool old.seat mid.seat old.notes mid.notes stage) c.in-Held.is
    call.ensures)

pub answer-requires : goal.answer-requires
answer-requires c =
    let may = c.requires.may in let old = c.args.self.now in let call = c.cross in let pool = c.args.pool.now in
    let mid : Context = record old { seat = call.new.seat; notes = call.new.log } in
    marked_can mid c.mark.new.self c.args.name c.args.marks
    (cross_can pool old mid c.args.stage may.context refl refl call.result call.ensures (may.room (Command.Retain 0))
    may.replies) c.mark.ensures

pub answer-requires-in-Done-Got : goal.answer-requires-in-Done-Got
answer-requires-in-Done-Got c =
    let may = c.requires.may in let old = c.args.self.now in let call = c.cross in let pool = c.args.pool.now in
    let mid : Context = record old { seat = call.new.seat; notes = call.new.log } in
    marked_can mid c.mark-in-Done-Got.new.self c.args.name c.args.marks
    (cross_can pool old mid c.args.stage may.context refl refl call.result call.ensures (may.room (Command.Retain 0))
    may.replies) c.mark-in-Done-Got.ensures

pub returns-in-Done-Set : goal.returns-in-Done-Set
returns-in-Done-Set c = λ s command are.
    let may = c.requires.may in let old = c.args.self.now in let call = c.cross in let pool = c.args.pool.now in
    let stage = c.args.stage in
    let mid : Context = record old { seat = call.new.seat; notes = call.new.log } in
    subst (λ (t : Turn). HasTurned pool old c.answer.new.self s command (Crossing c.args.name c.args.marks stage) t)
    (sym c.answer.ensures.ready)
    (cross_was_set pool old mid stage may.context refl refl c.args.name c.args.marks may.name may.fits.1 s command are
    c.mark.new.self c.answer.new.self c.mark.ensures c.answer.ensures.replied
    (done_with (crossing.HasCrossed pool old.seat mid.seat old.notes mid.notes stage) c.in-Done-Set.is
    c.in-Done-Set.field-0-is call.ensures))

pub returns-in-Done-Got : goal.returns-in-Done-Got
returns-in-Done-Got c = λ s command are.
    let may = c.requires.may in let old = c.args.self.now in let call = c.cross in let pool = c.args.pool.now in
    let stage = c.args.stage in let new = c.answer-in-Done-Got.new.self in
    let mid : Context = record old { seat = call.new.seat; notes = call.new.log } in
    subst (λ (t : Turn). HasTurned pool old new s command (Crossing c.args.name c.args.marks stage) t)
    (sym c.answer-in-Done-Got.ensures.ready)
    (cross_was_got pool old mid stage may.context refl refl c.args.name c.args.marks may.name may.fits.1 s command are
    c.mark-in-Done-Got.new.self new c.in-Done-Got.got c.mark-in-Done-Got.ensures
    (subst (λ (bytes : List ℕ). HasReplied c.mark-in-Done-Got.new.self new (Reply.OkBytes bytes)) c.of.ensures
    c.answer-in-Done-Got.ensures.replied)
    (done_with (crossing.HasCrossed pool old.seat mid.seat old.notes mid.notes stage) c.in-Done-Got.is
    c.in-Done-Got.field-0-is call.ensures))
