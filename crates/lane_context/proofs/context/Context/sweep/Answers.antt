use Rattle.std.proofs.Common.{refl, sym, ap, ◌∙◌, subst}
use Rattle.shared_pool.specs.SeatViews.{view_of}
use Rattle.lane_context.specs.declared.context.Context.{Context}
use Rattle.lane_context.specs.declared.context.Stage.TheVariants.{Sweeping}
use Rattle.lane_context.specs.declared.context.Turn.{Turn}
use Rattle.lane_stages.specs.declared.draining.DrainKind.TheVariants.{Trim}
use Rattle.lane_stages.specs.declared.draining.Draining.{Draining}
use Rattle.lane_stages.specs.declared.draining.Drains.{Drains}
use Rattle.lane_stages.specs.declared.draining.Drains.TheVariants.{More as DrainMore}
use Rattle.lane_context.specs.Contexts.{HasTurned}
use Rattle.lane_stages.specs.Drainings as draining
use Rattle.lane_context.proofs.DrainTurns.{sweep_goes, sweep_waits, sweep_done}
use Rattle.lane_context.proofs.StageNeeds.{may_drain, drain_can, log_room}
use Rattle.lane_context.proofs.context.Context.sweep.Goals as goal

pub drain-requires-clause-may : goal.drain-requires-clause-may
drain-requires-clause-may c =
    may_drain c.args.pool.now c.args.self.now Trim c.args.stage c.requires.context c.requires.room c.requires.fits.0
    c.requires.fits.3

pub drain-requires-clause-more : goal.drain-requires-clause-more
drain-requires-clause-more c = c.requires.fits.3

pub drain-requires-clause-room : goal.drain-requires-clause-room
drain-requires-clause-room c =
    let old = c.args.self.now in
    log_room c.args.pool.now (draining.hand_of Trim c.args.stage) old (draining.left_of c.args.stage (view_of old.seat))
    c.requires.context c.requires.room

pub answer-requires : goal.answer-requires
answer-requires c =
    let old = c.args.self.now in let mid : Context = record old { seat = c.drain.new.seat; notes = c.drain.new.log } in
    drain_can c.args.pool.now old mid Trim c.args.stage c.requires.context refl c.drain.result c.drain.ensures
    c.requires.room c.requires.replies

pub returns-in-Done : goal.returns-in-Done
returns-in-Done c = λ s command are.
    let old = c.args.self.now in let mid : Context = record old { seat = c.drain.new.seat; notes = c.drain.new.log } in
    subst (λ (t : Turn). HasTurned c.args.pool.now old c.answer.new.self s command (Sweeping c.args.reply c.args.stage)
    t) (sym c.answer.ensures.ready)
    (sweep_done c.args.pool.now old mid c.args.reply c.args.stage c.requires.context c.requires.fits.1 c.requires.fits.2
    c.requires.fits.3 refl s command are c.answer.new.self
    (subst (λ (x : Drains). draining.HasDrained c.args.pool.now old.seat mid.seat old.notes mid.notes Trim c.args.stage
    x) (c.in-More.is ∙ ap (λ (x : Draining). DrainMore x) c.in-Done.is) c.drain.ensures) c.answer.ensures.replied)

pub returns-in_default : goal.returns-in_default
returns-in_default c = λ s command are.
    let old = c.args.self.now in let mid : Context = record old { seat = c.drain.new.seat; notes = c.drain.new.log } in
    sweep_goes c.args.pool.now old mid c.args.reply c.args.stage c.requires.context c.requires.fits.1 c.requires.fits.2
    c.requires.fits.3 refl s command are c.in-More.stage c.in_default.not-Done
    (subst (λ (x : Drains). draining.HasDrained c.args.pool.now old.seat mid.seat old.notes mid.notes Trim c.args.stage
    x) c.in-More.is c.drain.ensures)

pub returns-in-Held : goal.returns-in-Held
returns-in-Held c = λ s command are.
    let old = c.args.self.now in let mid : Context = record old { seat = c.drain.new.seat; notes = c.drain.new.log } in
    sweep_waits c.args.pool.now old mid c.args.reply c.args.stage c.requires.context c.requires.fits.1 c.requires.fits.2
    c.requires.fits.3 refl s command are c.in-Held.held c.in-Held.stage
    (subst (λ (x : Drains). draining.HasDrained c.args.pool.now old.seat mid.seat old.notes mid.notes Trim c.args.stage
    x) c.in-Held.is c.drain.ensures)
