use Rattle.std.proofs.Common.{refl, sym, subst}
use Rattle.lane_context.specs.declared.context.Context.{Context}
use Rattle.lane_context.specs.declared.context.Stage.TheVariants.{Ending}
use Rattle.lane_context.specs.declared.context.Turn.{Turn}
use Rattle.lane_stages.specs.Endings as ending
use Rattle.lane_context.specs.Contexts.{HasTurned}
use Rattle.lane_context.proofs.EndTurns.{end_goes, end_waits, end_done}
use Rattle.lane_context.proofs.StageNeeds.{may_end, log_room, end_can}
use Rattle.lane_context.proofs.context.Context.end.Goals as goal

pub end-requires-clause-may : goal.end-requires-clause-may
end-requires-clause-may c =
    may_end c.args.pool.now c.args.self.now c.args.stage c.requires.context c.requires.room c.requires.fits.0

pub end-requires-clause-room : goal.end-requires-clause-room
end-requires-clause-room c =
    log_room c.args.pool.now (ending.hand_of c.args.stage) c.args.self.now (ending.left_of c.args.stage)
    c.requires.context
    c.requires.room

pub answer-requires : goal.answer-requires
answer-requires c =
    let old = c.args.self.now in let mid : Context = record old { seat = c.end.new.seat; notes = c.end.new.log } in
    end_can c.args.pool.now old mid c.args.stage c.requires.context refl c.end.result c.end.ensures c.requires.room
    c.requires.replies

pub returns-in-More : goal.returns-in-More
returns-in-More c = λ s command are.
    let old = c.args.self.now in let mid : Context = record old { seat = c.end.new.seat; notes = c.end.new.log } in
    end_goes c.args.pool.now old mid c.args.stage c.requires.context refl c.requires.fits.1 s command are
    c.in-More.stage
    (subst (ending.HasEnded c.args.pool.now old.seat mid.seat old.notes mid.notes c.args.stage)
    c.in-More.is c.end.ensures)

pub returns-in-Held : goal.returns-in-Held
returns-in-Held c = λ s command are.
    let old = c.args.self.now in let mid : Context = record old { seat = c.end.new.seat; notes = c.end.new.log } in
    end_waits c.args.pool.now old mid c.args.stage c.requires.context refl c.requires.fits.1 s command are
    c.in-Held.held
    c.in-Held.stage
    (subst (ending.HasEnded c.args.pool.now old.seat mid.seat old.notes mid.notes c.args.stage)
    c.in-Held.is c.end.ensures)

pub returns-in-Done : goal.returns-in-Done
returns-in-Done c = λ s command are.
    let old = c.args.self.now in let mid : Context = record old { seat = c.end.new.seat; notes = c.end.new.log } in
    subst (λ (t : Turn). HasTurned c.args.pool.now old c.answer.new.self s command (Ending c.args.stage) t)
    (sym c.answer.ensures.ready)
    (end_done c.args.pool.now old mid c.args.stage c.requires.context refl c.requires.fits.1 s command are
    c.answer.new.self
    (subst (ending.HasEnded c.args.pool.now old.seat mid.seat old.notes mid.notes c.args.stage)
    c.in-Done.is c.end.ensures) c.answer.ensures.replied)
