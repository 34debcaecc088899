use Rattle.std.proofs.Common.{refl, sym, subst}
use Rattle.pool_law.specs.declared.command.Command.{Command}
use Rattle.lane_context.specs.declared.context.Context.{Context}
use Rattle.lane_context.specs.declared.context.Stage.TheVariants.{Replacing}
use Rattle.lane_context.specs.declared.context.Turn.TheVariants.{Went}
use Rattle.lane_stages.specs.declared.releasing.Releasing.{Releasing}
use Rattle.lane_stages.specs.Releasings as releasing
use Rattle.lane_context.specs.Contexts.{HasTurned}
use Rattle.lane_context.proofs.PartTurns.{bindable_on}
use Rattle.lane_context.proofs.ReleaseTurns.{may_release, release_can, replace_bound, replace_goes, replace_more, replace_waits}
use Rattle.lane_context.proofs.StageNeeds.{log_room}
use Rattle.lane_context.proofs.context.Context.replace.Goals as goal

pub release-requires-clause-may : goal.release-requires-clause-may
release-requires-clause-may c =
    let old = c.args.self.now in let pool = c.args.pool.now in let stage = c.args.stage in let may = c.requires.may in
    may_release pool old stage may.context (may.room (Command.Retain 0)) may.fits.0

pub release-requires-clause-room : goal.release-requires-clause-room
release-requires-clause-room c =
    let old = c.args.self.now in let pool = c.args.pool.now in let stage = c.args.stage in let may = c.requires.may in
    log_room pool (releasing.hand_of stage) old (releasing.left_of stage) may.context (may.room (Command.Retain 0))

pub bind-requires-clause-may : goal.bind-requires-clause-may
bind-requires-clause-may c =
    let old = c.args.self.now in let pool = c.args.pool.now in let stage = c.args.stage in let may = c.requires.may in
    let call = c.release in
    let mid : Context = record old { seat = call.new.seat; counts = call.new.counts; notes = call.new.log } in
    release_can pool old mid stage may.context refl call.result call.ensures (may.room (Command.Retain 0)) may.replies

pub bind-requires-clause-whole : goal.bind-requires-clause-whole
bind-requires-clause-whole c =
    let old = c.args.self.now in let pool = c.args.pool.now in let stage = c.args.stage in let may = c.requires.may in
    let call = c.release in
    let mid : Context = record old { seat = call.new.seat; counts = call.new.counts; notes = call.new.log } in
    bindable_on old mid call.ensures.added call.ensures.more refl c.args.name c.args.whole.value may.name

pub returns-in-Some : goal.returns-in-Some
returns-in-Some c = λ s command are.
    let old = c.args.self.now in let pool = c.args.pool.now in let stage = c.args.stage in let may = c.requires.may in
    let call = c.release in
    let mid : Context = record old { seat = call.new.seat; counts = call.new.counts; notes = call.new.log } in
    let did =
    subst (releasing.HasReleased pool old.seat mid.seat old.counts mid.counts old.notes mid.notes
    stage) c.in-More.is call.ensures in
    let left = c.in-Some.ensures.some in
    subst (λ (x : Releasing). HasTurned pool old mid s command (Replacing c.args.name c.args.whole stage)
    (Went (Replacing c.args.name c.args.whole x))) (sym left.0)
    (replace_goes pool old mid stage may.context refl c.args.name c.args.whole may.name may.fits.1 s command are
    c.in-More.stage left.1 did)

pub returns-in-None : goal.returns-in-None
returns-in-None c = λ s command are.
    let old = c.args.self.now in let pool = c.args.pool.now in let stage = c.args.stage in let may = c.requires.may in
    let call = c.release in
    let mid : Context = record old { seat = call.new.seat; counts = call.new.counts; notes = call.new.log } in
    let did =
    subst (releasing.HasReleased pool old.seat mid.seat old.counts mid.counts old.notes mid.notes
    stage) c.in-More.is call.ensures in
    replace_bound pool old mid stage may.context refl c.args.name c.args.whole may.name may.fits.1 s command are
    c.bind.new.self c.in-More.stage c.in-None.ensures.none did c.bind.result
    c.bind.ensures

pub returns-in-Held : goal.returns-in-Held
returns-in-Held c = λ s command are.
    let old = c.args.self.now in let pool = c.args.pool.now in let stage = c.args.stage in let may = c.requires.may in
    let call = c.release in
    let mid : Context = record old { seat = call.new.seat; counts = call.new.counts; notes = call.new.log } in
    let did =
    subst (releasing.HasReleased pool old.seat mid.seat old.counts mid.counts old.notes mid.notes
    stage) c.in-Held.is call.ensures in
    replace_waits pool old mid stage may.context refl c.args.name c.args.whole may.name may.fits.1 s command are
    may.fits.2 c.in-Held.held c.in-Held.stage did

pub unreachable-requires : goal.unreachable-requires
unreachable-requires c =
    let old = c.args.self.now in let pool = c.args.pool.now in let stage = c.args.stage in let may = c.requires.may in
    let call = c.release in
    let mid : Context = record old { seat = call.new.seat; counts = call.new.counts; notes = call.new.log } in
    let did =
    subst (releasing.HasReleased pool old.seat mid.seat old.counts mid.counts old.notes mid.notes
    stage) c.in-Done.is call.ensures in
    replace_more pool old mid stage may.context refl may.fits.2 did
