use Rattle.std.proofs.Common.{refl, sym, subst}
use Rattle.pool_law.specs.declared.command.Command.{Command}
use Rattle.lane_context.specs.declared.context.Context.{Context}
use Rattle.lane_context.specs.declared.context.Stage.TheVariants.{Parting}
use Rattle.lane_context.specs.declared.context.Turn.{Turn}
use Rattle.lane_stages.specs.Releasings as releasing
use Rattle.lane_context.specs.Contexts.{HasTurned}
use Rattle.lane_context.proofs.ReleaseTurns.{may_release, part_done, part_goes, part_waits, release_can}
use Rattle.lane_context.proofs.StageNeeds.{log_room}
use Rattle.lane_context.proofs.context.Context.part.Goals as goal

pub release-requires-clause-may : goal.release-requires-clause-may
release-requires-clause-may c =
    let may = c.requires.may in
    may_release c.args.pool.now c.args.self.now c.args.stage may.context (may.room (Command.Retain 0)) may.fits.0

pub release-requires-clause-room : goal.release-requires-clause-room
release-requires-clause-room c =
    let may = c.requires.may in
    log_room c.args.pool.now (releasing.hand_of c.args.stage) c.args.self.now (releasing.left_of c.args.stage)
    may.context
    (may.room (Command.Retain 0))

pub recount-requires-clause-may : goal.recount-requires-clause-may
recount-requires-clause-may c =
    let may = c.requires.may in let old = c.args.self.now in let call = c.release in
    let mid : Context = record old { seat = call.new.seat; counts = call.new.counts; notes = call.new.log } in
    release_can c.args.pool.now old mid c.args.stage may.context refl call.result call.ensures (may.room (Command.Retain
    0))
    may.replies

pub recount-requires-clause-composed : goal.recount-requires-clause-composed
recount-requires-clause-composed c = let last = c.requires.may.name in (last.0, last.1)

pub returns-in-More : goal.returns-in-More
returns-in-More c = λ s command are.
    let may = c.requires.may in let old = c.args.self.now in let call = c.release in
    let mid : Context = record old { seat = call.new.seat; counts = call.new.counts; notes = call.new.log } in
    part_goes c.args.pool.now old mid c.args.stage may.context refl c.args.name may.name may.fits.1 s command are
    c.in-More.stage
    (subst (releasing.HasReleased c.args.pool.now old.seat mid.seat old.counts mid.counts old.notes
    mid.notes c.args.stage) c.in-More.is call.ensures)

pub returns-in-Held : goal.returns-in-Held
returns-in-Held c = λ s command are.
    let may = c.requires.may in let old = c.args.self.now in let call = c.release in
    let mid : Context = record old { seat = call.new.seat; counts = call.new.counts; notes = call.new.log } in
    part_waits c.args.pool.now old mid c.args.stage may.context refl c.args.name may.name may.fits.1 s command are
    c.in-Held.held c.in-Held.stage
    (subst (releasing.HasReleased c.args.pool.now old.seat mid.seat old.counts mid.counts old.notes
    mid.notes c.args.stage) c.in-Held.is call.ensures)

pub returns-in-Done : goal.returns-in-Done
returns-in-Done c = λ s command are.
    let may = c.requires.may in let old = c.args.self.now in let call = c.release in
    let mid : Context = record old { seat = call.new.seat; counts = call.new.counts; notes = call.new.log } in
    subst (λ (t : Turn). HasTurned c.args.pool.now old c.recount.new.self s command (Parting c.args.name c.args.stage)
    t) (sym c.recount.ensures.ready)
    (part_done c.args.pool.now old mid c.args.stage may.context refl c.args.name may.name may.fits.1 s command are
    c.recount.new.self
    (subst (releasing.HasReleased c.args.pool.now old.seat mid.seat old.counts mid.counts old.notes
    mid.notes c.args.stage) c.in-Done.is call.ensures) (c.recount.ensures.replied may.name.0 may.name.1))
