use Rattle.std.proofs.Common.{length, refl, subst}
use Rattle.pool_law.specs.declared.command.Command.{Command}
use Rattle.seat_work.specs.Hands.{empty_hand}
use Rattle.lane_context.specs.declared.context.Context.{Context}
use Rattle.lane_stages.specs.Copyings as copying
use Rattle.lane_context.proofs.ConsolidateLaws.{room_beside}
use Rattle.lane_context.proofs.CopyTurns.{copy_done, copy_goes, copy_waits, may_copy}
use Rattle.lane_context.proofs.StageNeeds.{log_room}
use Rattle.lane_context.proofs.context.Context.copy.Goals as goal

pub copy-requires-clause-may : goal.copy-requires-clause-may
copy-requires-clause-may c =
    let old = c.args.self.now in let pool = c.args.pool.now in let stage = c.args.stage in let may = c.requires.may in
    may_copy pool old stage (length c.args.parts.items) may.context (may.room (Command.Retain 0)) may.fits.0

pub copy-requires-clause-room : goal.copy-requires-clause-room
copy-requires-clause-room c =
    let old = c.args.self.now in let pool = c.args.pool.now in let stage = c.args.stage in let may = c.requires.may in
    log_room pool empty_hand old (copying.left_of stage) may.context
    (room_beside pool old (copying.left_of stage) 0 (length c.args.parts.items) (may.room (Command.Retain 0)))

pub returns-in-More : goal.returns-in-More
returns-in-More c = λ s command are.
    let old = c.args.self.now in let pool = c.args.pool.now in let stage = c.args.stage in let may = c.requires.may in
    let call = c.copy in
    let mid : Context = record old { seat = call.new.seat; notes = call.new.log } in
    let did =
    subst (copying.HasCopied pool old.seat mid.seat old.notes mid.notes stage) c.in-More.is
    call.ensures
    in
    copy_goes pool old mid stage may.context refl refl c.args.name c.args.whole c.args.parts may.name may.fits.1
    may.fits.2 s command are
    c.in-More.stage did

pub returns-in-Held : goal.returns-in-Held
returns-in-Held c = λ s command are.
    let old = c.args.self.now in let pool = c.args.pool.now in let stage = c.args.stage in let may = c.requires.may in
    let call = c.copy in
    let mid : Context = record old { seat = call.new.seat; notes = call.new.log } in
    let did =
    subst (copying.HasCopied pool old.seat mid.seat old.notes mid.notes stage) c.in-Held.is
    call.ensures
    in
    copy_waits pool old mid stage may.context refl refl c.args.name c.args.whole c.args.parts may.name may.fits.1
    may.fits.2 s command are
    c.in-Held.held c.in-Held.stage did

pub returns-in-Done : goal.returns-in-Done
returns-in-Done c = λ s command are.
    let old = c.args.self.now in let pool = c.args.pool.now in let stage = c.args.stage in let may = c.requires.may in
    let call = c.copy in
    let mid : Context = record old { seat = call.new.seat; notes = call.new.log } in
    let did =
    subst (copying.HasCopied pool old.seat mid.seat old.notes mid.notes stage) c.in-Done.is
    call.ensures
    in
    copy_done pool old mid stage may.context refl refl c.args.name c.args.whole c.args.parts may.name may.fits.1
    may.fits.2 s command are
    c.all_of-stage.result c.all_of-stage.ensures.ending c.all_of-stage.ensures.left did
