use Rattle.std.proofs.Common.{refl, ◌∙◌, subst, arith}
use Rattle.pool_law.specs.declared.command.Command.{Command}
use Rattle.pool_law.specs.declared.run.Reply.{Reply}
use Rattle.lane_context.specs.declared.context.Context.{Context}
use Rattle.lane_stages.specs.declared.allotment.Allotted.TheVariants.{NoHandle, Full}
use Rattle.lane_stages.specs.declared.stage_step.StageStep.TheVariants.{Done}
use Rattle.lane_stages.specs.Allotments as allotment
use Rattle.lane_context.specs.Contexts.{HasRoomFor}
use Rattle.lane_context.proofs.AllocTurns.{allot_can, counted_so, new_place, new_alone, new_few}
use Rattle.lane_context.proofs.ConsolidateLaws.{room_beside}
use Rattle.lane_context.proofs.ConsolidateTurns.{consolidate_goes, consolidate_waits, consolidate_new, consolidate_refused}
use Rattle.lane_context.proofs.StageNeeds.{done_with, may_allot, few_births, log_room}
use Rattle.lane_context.proofs.context.Context.consolidate.Goals as goal

pub asked_with-self-requires : goal.asked_with-self-requires
asked_with-self-requires c =
    let a = c.requires.may.fits.2 in omega (arith, a)

pub allot-step-requires-clause-may : goal.allot-step-requires-clause-may
allot-step-requires-clause-may c =
    let old = c.args.self.now in let pool = c.args.pool.now in let p = c.args.plan in let stage = c.args.stage in
    let may = c.requires.may in
    let room : HasRoomFor pool old (allotment.left_of stage) =
    room_beside pool old (allotment.left_of stage) _ _ (may.room (Command.Retain 0)) in
    may_allot pool old p.class stage may.context room may.fits.1

pub allot-step-requires-clause-short : goal.allot-step-requires-clause-short
allot-step-requires-clause-short c =
    c.requires.may.context.short

pub allot-step-requires-clause-shape : goal.allot-step-requires-clause-shape
allot-step-requires-clause-shape c =
    c.requires.may.context.shape

pub allot-step-requires-clause-class : goal.allot-step-requires-clause-class
allot-step-requires-clause-class c =
    c.requires.may.fits.0.class

pub allot-step-requires-clause-births : goal.allot-step-requires-clause-births
allot-step-requires-clause-births c =
    let old = c.args.self.now in let pool = c.args.pool.now in let p = c.args.plan in let stage = c.args.stage in
    let may = c.requires.may in
    let room : HasRoomFor pool old (allotment.left_of stage) =
    room_beside pool old (allotment.left_of stage) _ _ (may.room (Command.Retain 0)) in
    few_births pool (allotment.hand_of stage) old (allotment.left_of stage) may.context room

pub allot-step-requires-clause-room : goal.allot-step-requires-clause-room
allot-step-requires-clause-room c =
    let old = c.args.self.now in let pool = c.args.pool.now in let p = c.args.plan in let stage = c.args.stage in
    let may = c.requires.may in
    let room : HasRoomFor pool old (allotment.left_of stage) =
    room_beside pool old (allotment.left_of stage) _ _ (may.room (Command.Retain 0)) in
    log_room pool (allotment.hand_of stage) old (allotment.left_of stage) may.context room

pub returns-in-More : goal.returns-in-More
returns-in-More c = λ s command are.
    let old = c.args.self.now in let pool = c.args.pool.now in let p = c.args.plan in let stage = c.args.stage in
    let may = c.requires.may in
    let call = c.allot-step in
    let mid : Context = record old {
      seat = call.new.seat;
      sampler = call.new.sampler;
      notes = call.new.log;
      asked = c.asked_with-self.result;
    } in
    let mid_so =
    counted_so old call.new.seat call.new.sampler call.new.log c.asked_with-self.result
    (allotment.asks_of stage old.asked) c.asked_with-self.ensures in
    let did =
    subst (allotment.HasAllotted pool old.seat mid.seat old.sampler mid.sampler old.notes mid.notes
    p.size p.class stage) c.in-More.is call.ensures in
    consolidate_goes pool old mid p stage may.context may.fits.0 may.name mid_so may.fits.2 s command are
    c.in-More.stage
    did

pub returns-in-Held : goal.returns-in-Held
returns-in-Held c = λ s command are.
    let old = c.args.self.now in let pool = c.args.pool.now in let p = c.args.plan in let stage = c.args.stage in
    let may = c.requires.may in
    let call = c.allot-step in
    let mid : Context = record old {
      seat = call.new.seat;
      sampler = call.new.sampler;
      notes = call.new.log;
      asked = c.asked_with-self.result;
    } in
    let mid_so =
    counted_so old call.new.seat call.new.sampler call.new.log c.asked_with-self.result
    (allotment.asks_of stage old.asked) c.asked_with-self.ensures in
    let did =
    subst (allotment.HasAllotted pool old.seat mid.seat old.sampler mid.sampler old.notes mid.notes
    p.size p.class stage) c.in-Held.is call.ensures in
    consolidate_waits pool old mid p stage may.context may.fits.0 may.name mid_so may.fits.2 s command are
    c.in-Held.held
    c.in-Held.stage did

pub add-requires-clause-place : goal.add-requires-clause-place
add-requires-clause-place c =
    let old = c.args.self.now in let pool = c.args.pool.now in let p = c.args.plan in let stage = c.args.stage in
    let may = c.requires.may in
    let call = c.allot-step in
    let mid : Context = record old {
      seat = call.new.seat;
      sampler = call.new.sampler;
      notes = call.new.log;
      asked = c.asked_with-self.result;
    } in
    let mid_so =
    counted_so old call.new.seat call.new.sampler call.new.log c.asked_with-self.result
    (allotment.asks_of stage old.asked) c.asked_with-self.ensures in
    let did =
    done_with (allotment.HasAllotted pool old.seat mid.seat old.sampler mid.sampler old.notes mid.notes
    p.size p.class stage) c.in-Done-New.is (rw c.in-Done-New.is at c.in-Done-New.field-0-is) call.ensures in
    new_place pool old mid p.name p.size p.class stage may.context may.fits.0.class mid_so c.in-Done-New.root
    c.in-Done-New._region did

pub add-requires-clause-alone : goal.add-requires-clause-alone
add-requires-clause-alone c =
    let old = c.args.self.now in let pool = c.args.pool.now in let p = c.args.plan in let stage = c.args.stage in
    let may = c.requires.may in
    let call = c.allot-step in
    let mid : Context = record old {
      seat = call.new.seat;
      sampler = call.new.sampler;
      notes = call.new.log;
      asked = c.asked_with-self.result;
    } in
    let mid_so =
    counted_so old call.new.seat call.new.sampler call.new.log c.asked_with-self.result
    (allotment.asks_of stage old.asked) c.asked_with-self.ensures in
    let did =
    done_with (allotment.HasAllotted pool old.seat mid.seat old.sampler mid.sampler old.notes mid.notes
    p.size p.class stage) c.in-Done-New.is (rw c.in-Done-New.is at c.in-Done-New.field-0-is) call.ensures in
    new_alone pool old mid p.name p.size p.class stage may.context may.fits.0.class mid_so c.in-Done-New.root
    c.in-Done-New._region did

pub add-requires-clause-few : goal.add-requires-clause-few
add-requires-clause-few c =
    let old = c.args.self.now in let pool = c.args.pool.now in let p = c.args.plan in let stage = c.args.stage in
    let may = c.requires.may in
    let room : HasRoomFor pool old (allotment.left_of stage) =
    room_beside pool old (allotment.left_of stage) _ _ (may.room (Command.Retain 0)) in
    let call = c.allot-step in
    let mid : Context = record old {
      seat = call.new.seat;
      sampler = call.new.sampler;
      notes = call.new.log;
      asked = c.asked_with-self.result;
    } in
    let mid_so =
    counted_so old call.new.seat call.new.sampler call.new.log c.asked_with-self.result
    (allotment.asks_of stage old.asked) c.asked_with-self.ensures in
    let did =
    done_with (allotment.HasAllotted pool old.seat mid.seat old.sampler mid.sampler old.notes mid.notes
    p.size p.class stage) c.in-Done-New.is (rw c.in-Done-New.is at c.in-Done-New.field-0-is) call.ensures in
    new_few pool old mid p.name p.size p.class stage may.context may.fits.0.class mid_so c.in-Done-New.root
    c.in-Done-New._region did room

pub copying_to-requires : goal.copying_to-requires
copying_to-requires c =
    let old = c.args.self.now in let pool = c.args.pool.now in let p = c.args.plan in let stage = c.args.stage in
    let may = c.requires.may in
    let call = c.allot-step in
    let mid : Context = record old {
      seat = call.new.seat;
      sampler = call.new.sampler;
      notes = call.new.log;
      asked = c.asked_with-self.result;
    } in
    let mid_so =
    counted_so old call.new.seat call.new.sampler call.new.log c.asked_with-self.result
    (allotment.asks_of stage old.asked) c.asked_with-self.ensures in
    let did =
    done_with (allotment.HasAllotted pool old.seat mid.seat old.sampler mid.sampler old.notes mid.notes
    p.size p.class stage) c.in-Done-New.is (rw c.in-Done-New.is at c.in-Done-New.field-0-is) call.ensures in
    did.place.1 ∙ may.fits.0.size

pub returns-in-Done-New : goal.returns-in-Done-New
returns-in-Done-New c = λ s command are.
    let old = c.args.self.now in let pool = c.args.pool.now in let p = c.args.plan in let stage = c.args.stage in
    let may = c.requires.may in
    let call = c.allot-step in
    let mid : Context = record old {
      seat = call.new.seat;
      sampler = call.new.sampler;
      notes = call.new.log;
      asked = c.asked_with-self.result;
    } in
    let mid_so =
    counted_so old call.new.seat call.new.sampler call.new.log c.asked_with-self.result
    (allotment.asks_of stage old.asked) c.asked_with-self.ensures in
    let did =
    done_with (allotment.HasAllotted pool old.seat mid.seat old.sampler mid.sampler old.notes mid.notes
    p.size p.class stage) c.in-Done-New.is (rw c.in-Done-New.is at c.in-Done-New.field-0-is) call.ensures in
    consolidate_new pool old mid p stage may.context may.fits.0 may.name mid_so may.fits.2 s command are
    c.in-Done-New.root c.in-Done-New._region did c.add.new.self
    (record { counts = c.add.ensures.counts; places = c.add.ensures.places }) c.copying_to.result c.copying_to.ensures

pub conclude-requires : goal.conclude-requires
conclude-requires c =
    let old = c.args.self.now in let pool = c.args.pool.now in let p = c.args.plan in let stage = c.args.stage in
    let may = c.requires.may in
    let room : HasRoomFor pool old (allotment.left_of stage) =
    room_beside pool old (allotment.left_of stage) _ _ (may.room (Command.Retain 0)) in
    let call = c.allot-step in
    let mid : Context = record old {
      seat = call.new.seat;
      sampler = call.new.sampler;
      notes = call.new.log;
      asked = c.asked_with-self.result;
    } in
    let mid_so =
    counted_so old call.new.seat call.new.sampler call.new.log c.asked_with-self.result
    (allotment.asks_of stage old.asked) c.asked_with-self.ensures in
    let can =
    allot_can pool old mid p.name p.size p.class stage may.context may.fits.0.class mid_so call.result call.ensures room
    may.replies in
    record { begun = can.begun; few = can.few; room = can.room }

pub conclude-requires-in-Done-Full : goal.conclude-requires-in-Done-Full
conclude-requires-in-Done-Full c =
    let old = c.args.self.now in let pool = c.args.pool.now in let p = c.args.plan in let stage = c.args.stage in
    let may = c.requires.may in
    let room : HasRoomFor pool old (allotment.left_of stage) =
    room_beside pool old (allotment.left_of stage) _ _ (may.room (Command.Retain 0)) in
    let call = c.allot-step in
    let mid : Context = record old {
      seat = call.new.seat;
      sampler = call.new.sampler;
      notes = call.new.log;
      asked = c.asked_with-self.result;
    } in
    let mid_so =
    counted_so old call.new.seat call.new.sampler call.new.log c.asked_with-self.result
    (allotment.asks_of stage old.asked) c.asked_with-self.ensures in
    let can =
    allot_can pool old mid p.name p.size p.class stage may.context may.fits.0.class mid_so call.result call.ensures room
    may.replies in
    record { begun = can.begun; few = can.few; room = can.room }

pub returns-in-Done-NoHandle : goal.returns-in-Done-NoHandle
returns-in-Done-NoHandle c = λ s command are.
    let old = c.args.self.now in let pool = c.args.pool.now in let p = c.args.plan in let stage = c.args.stage in
    let may = c.requires.may in
    let call = c.allot-step in
    let mid : Context = record old {
      seat = call.new.seat;
      sampler = call.new.sampler;
      notes = call.new.log;
      asked = c.asked_with-self.result;
    } in
    let mid_so =
    counted_so old call.new.seat call.new.sampler call.new.log c.asked_with-self.result
    (allotment.asks_of stage old.asked) c.asked_with-self.ensures in
    let did =
    done_with (allotment.HasAllotted pool old.seat mid.seat old.sampler mid.sampler old.notes mid.notes
    p.size p.class stage) c.in-Done-NoHandle.is
    (rw c.in-Done-NoHandle.is at c.in-Done-NoHandle.field-0-is) call.ensures in
    consolidate_refused pool old mid p stage may.context may.fits.0 may.name mid_so may.fits.2 s command are
    c.conclude.new.self (Done NoHandle) Reply.Handles refl refl (λ root. refl) refl (λ log some. some) refl did
    c.conclude.result
    c.conclude.ensures

pub returns-in-Done-Full : goal.returns-in-Done-Full
returns-in-Done-Full c = λ s command are.
    let old = c.args.self.now in let pool = c.args.pool.now in let p = c.args.plan in let stage = c.args.stage in
    let may = c.requires.may in
    let call = c.allot-step in
    let mid : Context = record old {
      seat = call.new.seat;
      sampler = call.new.sampler;
      notes = call.new.log;
      asked = c.asked_with-self.result;
    } in
    let mid_so =
    counted_so old call.new.seat call.new.sampler call.new.log c.asked_with-self.result
    (allotment.asks_of stage old.asked) c.asked_with-self.ensures in
    let did =
    done_with (allotment.HasAllotted pool old.seat mid.seat old.sampler mid.sampler old.notes mid.notes
    p.size p.class stage) c.in-Done-Full.is (rw c.in-Done-Full.is at c.in-Done-Full.field-0-is) call.ensures in
    consolidate_refused pool old mid p stage may.context may.fits.0 may.name mid_so may.fits.2 s command are
    c.conclude-in-Done-Full.new.self (Done Full) Reply.Full refl refl (λ root. refl) refl (λ log some. some) refl did
    c.conclude-in-Done-Full.result
    c.conclude-in-Done-Full.ensures
