use Rattle.std.proofs.Common.{refl, subst}
use Rattle.shared_pool.specs.SeatViews.{view_of}
use Rattle.lane_context.specs.declared.context.Context.{Context}
use Rattle.lane_stages.specs.declared.draining.DrainKind.TheVariants.{Close}
use Rattle.lane_stages.specs.declared.draining.Drains.{Drains}
use Rattle.lane_stages.specs.Drainings as draining
use Rattle.lane_context.proofs.DrainTurns.{close_goes, close_waits}
use Rattle.lane_context.proofs.StageNeeds.{may_drain, log_room}
use Rattle.lane_context.proofs.context.Context.close.Goals as goal

pub drain-requires-clause-may : goal.drain-requires-clause-may
drain-requires-clause-may c =
    may_drain c.args.pool.now c.args.self.now Close c.args.stage c.requires.context c.requires.room c.requires.fits
    c.requires.more

pub drain-requires-clause-more : goal.drain-requires-clause-more
drain-requires-clause-more c = c.requires.more

pub drain-requires-clause-room : goal.drain-requires-clause-room
drain-requires-clause-room c =
    let old = c.args.self.now in
    log_room c.args.pool.now (draining.hand_of Close c.args.stage) old
    (draining.left_of c.args.stage (view_of old.seat)) c.requires.context c.requires.room

pub returns-in-More : goal.returns-in-More
returns-in-More c =
    let old = c.args.self.now in let mid : Context = record old { seat = c.drain.new.seat; notes = c.drain.new.log } in
    close_goes c.args.pool.now old mid Close c.args.stage c.requires.context refl refl c.in-More.stage
    (subst (λ (x : Drains). draining.HasDrained c.args.pool.now old.seat mid.seat old.notes mid.notes Close c.args.stage
    x) c.in-More.is c.drain.ensures)

pub returns-in-Held : goal.returns-in-Held
returns-in-Held c =
    let old = c.args.self.now in let mid : Context = record old { seat = c.drain.new.seat; notes = c.drain.new.log } in
    close_waits c.args.pool.now old mid Close c.args.stage c.requires.context refl refl c.in-Held.held c.in-Held.stage
    (subst (λ (x : Drains). draining.HasDrained c.args.pool.now old.seat mid.seat old.notes mid.notes Close c.args.stage
    x) c.in-Held.is c.drain.ensures)
