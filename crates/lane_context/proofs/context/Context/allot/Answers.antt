use Rattle.std.proofs.Common.{◌≡◌, List, refl, ap, ◌∙◌, subst, arith, Option, Some}
use Rattle.std.specs.Prelude.{slice_set}
use Rattle.pool_law.specs.declared.id.ViewData.{ViewData}
use Rattle.pool_law.specs.declared.run.Reply.{Reply}
use Rattle.pool_law.specs.Views.{view_of as root_view}
use Rattle.pool_law.specs.Names.{Bound, Plain}
use Rattle.lane_context.specs.declared.context.Context.{Context}
use Rattle.lane_stages.specs.declared.allotment.Allotted.TheVariants.{NoHandle, Full}
use Rattle.lane_stages.specs.declared.stage_step.StageStep.TheVariants.{Done}
use Rattle.lane_stages.specs.Allotments as allotment
use Rattle.lane_context.specs.ContextSteps.{Concludes}
use Rattle.lane_context.proofs.AllotTurns.{allot_goes, allot_waits, allot_new, allot_refused}
use Rattle.lane_context.proofs.StageNeeds.{done_with, may_allot, few_births, log_room}
use Rattle.lane_context.proofs.ClassSizes.{size_most}
use Rattle.lane_context.proofs.AllocTurns.{allot_can, counted_so, new_place, new_alone, new_few, new_name}
use Rattle.lane_context.proofs.context.Context.allot.Goals as goal

pub asked_with-self-requires : goal.asked_with-self-requires
asked_with-self-requires c = let a = c.requires.fits.2 in omega (arith, a)

pub allot-step-requires-clause-may : goal.allot-step-requires-clause-may
allot-step-requires-clause-may c =
    may_allot c.args.pool.now c.args.self.now c.args.class c.args.stage c.requires.context c.requires.room
    c.requires.fits.1

pub allot-step-requires-clause-short : goal.allot-step-requires-clause-short
allot-step-requires-clause-short c = c.requires.context.short

pub allot-step-requires-clause-shape : goal.allot-step-requires-clause-shape
allot-step-requires-clause-shape c = c.requires.context.shape

pub allot-step-requires-clause-class : goal.allot-step-requires-clause-class
allot-step-requires-clause-class c = c.requires.fits.0

pub allot-step-requires-clause-births : goal.allot-step-requires-clause-births
allot-step-requires-clause-births c =
    few_births c.args.pool.now (allotment.hand_of c.args.stage) c.args.self.now (allotment.left_of c.args.stage)
    c.requires.context c.requires.room

pub allot-step-requires-clause-room : goal.allot-step-requires-clause-room
allot-step-requires-clause-room c =
    log_room c.args.pool.now (allotment.hand_of c.args.stage) c.args.self.now (allotment.left_of c.args.stage)
    c.requires.context c.requires.room

pub returns-in-More : goal.returns-in-More
returns-in-More c = λ s command are.
    let old = c.args.self.now in let pool = c.args.pool.now in let size = c.args.size in let class = c.args.class in
    let stage = c.args.stage in let call = c.allot-step in
    let mid : Context = record old {
      seat = call.new.seat;
      sampler = call.new.sampler;
      notes = call.new.log;
      asked =
          c.asked_with-self.result;
    } in let mid_so =
    counted_so old call.new.seat call.new.sampler call.new.log c.asked_with-self.result
    (allotment.asks_of stage old.asked) c.asked_with-self.ensures in
    allot_goes pool old mid c.args.name size class stage c.requires.context c.requires.fits.0 mid_so s command are
    c.requires.name c.requires.fits.2 c.in-More.stage
    (subst (allotment.HasAllotted pool old.seat mid.seat old.sampler mid.sampler old.notes mid.notes
    size class stage) c.in-More.is call.ensures)

pub returns-in-Held : goal.returns-in-Held
returns-in-Held c = λ s command are.
    let old = c.args.self.now in let pool = c.args.pool.now in let size = c.args.size in let class = c.args.class in
    let stage = c.args.stage in let call = c.allot-step in
    let mid : Context = record old {
      seat = call.new.seat;
      sampler = call.new.sampler;
      notes = call.new.log;
      asked =
          c.asked_with-self.result;
    } in let mid_so =
    counted_so old call.new.seat call.new.sampler call.new.log c.asked_with-self.result
    (allotment.asks_of stage old.asked) c.asked_with-self.ensures in
    allot_waits pool old mid c.args.name size class stage c.requires.context c.requires.fits.0 mid_so s command are
    c.requires.name c.requires.fits.2 c.in-Held.held c.in-Held.stage
    (subst (allotment.HasAllotted pool old.seat mid.seat old.sampler mid.sampler old.notes mid.notes
    size class stage) c.in-Held.is call.ensures)

pub add-requires-clause-place : goal.add-requires-clause-place
add-requires-clause-place c =
    let old = c.args.self.now in let pool = c.args.pool.now in let size = c.args.size in let class = c.args.class in
    let stage = c.args.stage in let call = c.allot-step in
    let mid : Context = record old {
      seat = call.new.seat;
      sampler = call.new.sampler;
      notes = call.new.log;
      asked =
          c.asked_with-self.result;
    } in let mid_so =
    counted_so old call.new.seat call.new.sampler call.new.log c.asked_with-self.result
    (allotment.asks_of stage old.asked) c.asked_with-self.ensures in
    let did = done_with (allotment.HasAllotted pool old.seat mid.seat old.sampler mid.sampler old.notes
    mid.notes size class stage) c.in-Done-New.is (rw c.in-Done-New.is at c.in-Done-New.field-0-is) call.ensures in
    new_place pool old mid c.args.name size class stage c.requires.context c.requires.fits.0 mid_so c.in-Done-New.root
    c.in-Done-New.region did

pub add-requires-clause-alone : goal.add-requires-clause-alone
add-requires-clause-alone c =
    let old = c.args.self.now in let pool = c.args.pool.now in let size = c.args.size in let class = c.args.class in
    let stage = c.args.stage in let call = c.allot-step in
    let mid : Context = record old {
      seat = call.new.seat;
      sampler = call.new.sampler;
      notes = call.new.log;
      asked =
          c.asked_with-self.result;
    } in let mid_so =
    counted_so old call.new.seat call.new.sampler call.new.log c.asked_with-self.result
    (allotment.asks_of stage old.asked) c.asked_with-self.ensures in
    let did = done_with (allotment.HasAllotted pool old.seat mid.seat old.sampler mid.sampler old.notes
    mid.notes size class stage) c.in-Done-New.is (rw c.in-Done-New.is at c.in-Done-New.field-0-is) call.ensures in
    new_alone pool old mid c.args.name size class stage c.requires.context c.requires.fits.0 mid_so c.in-Done-New.root
    c.in-Done-New.region did

pub add-requires-clause-few : goal.add-requires-clause-few
add-requires-clause-few c =
    let old = c.args.self.now in let pool = c.args.pool.now in let size = c.args.size in let class = c.args.class in
    let stage = c.args.stage in let call = c.allot-step in
    let mid : Context = record old {
      seat = call.new.seat;
      sampler = call.new.sampler;
      notes = call.new.log;
      asked =
          c.asked_with-self.result;
    } in let mid_so =
    counted_so old call.new.seat call.new.sampler call.new.log c.asked_with-self.result
    (allotment.asks_of stage old.asked) c.asked_with-self.ensures in
    let did = done_with (allotment.HasAllotted pool old.seat mid.seat old.sampler mid.sampler old.notes
    mid.notes size class stage) c.in-Done-New.is (rw c.in-Done-New.is at c.in-Done-New.field-0-is) call.ensures in
    new_few pool old mid c.args.name size class stage c.requires.context c.requires.fits.0 mid_so c.in-Done-New.root
    c.in-Done-New.region did c.requires.room

pub of_root-requires : goal.of_root-requires
of_root-requires c =
    let old = c.args.self.now in let pool = c.args.pool.now in let size = c.args.size in let class = c.args.class in
    let stage = c.args.stage in let call = c.allot-step in
    let did = done_with (allotment.HasAllotted pool old.seat call.new.seat old.sampler call.new.sampler
    old.notes call.new.log size class stage) c.in-Done-New.is
    (rw c.in-Done-New.is at c.in-Done-New.field-0-is) call.ensures in
    let small = size_most pool old.shape c.requires.context.shape size class c.requires.fits.0 in
    let born = did.place.1 in omega (arith, small, born)

pub bind-requires : goal.bind-requires
bind-requires c =
    let old = c.args.self.now in let pool = c.args.pool.now in let size = c.args.size in let class = c.args.class in
    let stage = c.args.stage in let call = c.allot-step in
    let mid : Context = record old {
      seat = call.new.seat;
      sampler = call.new.sampler;
      notes = call.new.log;
      asked =
          c.asked_with-self.result;
    } in let mid_so =
    counted_so old call.new.seat call.new.sampler call.new.log c.asked_with-self.result
    (allotment.asks_of stage old.asked) c.asked_with-self.ensures in
    let did = done_with (allotment.HasAllotted pool old.seat mid.seat old.sampler mid.sampler old.notes
    mid.notes size class stage) c.in-Done-New.is (rw c.in-Done-New.is at c.in-Done-New.field-0-is) call.ensures in
    new_name pool old mid c.args.name size class stage c.requires.context c.requires.fits.0 mid_so c.in-Done-New.root
    c.in-Done-New.region did c.requires.name

pub conclude-requires : goal.conclude-requires
conclude-requires c =
    let old = c.args.self.now in let pool = c.args.pool.now in let size = c.args.size in let class = c.args.class in
    let stage = c.args.stage in let call = c.allot-step in
    let mid : Context = record old {
      seat = call.new.seat;
      sampler = call.new.sampler;
      notes = call.new.log;
      asked =
          c.asked_with-self.result;
    } in let mid_so =
    counted_so old call.new.seat call.new.sampler call.new.log c.asked_with-self.result
    (allotment.asks_of stage old.asked) c.asked_with-self.ensures in
    let can = allot_can pool old mid c.args.name size class stage c.requires.context c.requires.fits.0 mid_so
    call.result
    call.ensures c.requires.room c.requires.replies in
    record { begun = can.begun; few = can.few; room = can.room }

pub conclude-requires-in-Done-NoHandle : goal.conclude-requires-in-Done-NoHandle
conclude-requires-in-Done-NoHandle c =
    let old = c.args.self.now in let pool = c.args.pool.now in let size = c.args.size in let class = c.args.class in
    let stage = c.args.stage in let call = c.allot-step in
    let mid : Context = record old {
      seat = call.new.seat;
      sampler = call.new.sampler;
      notes = call.new.log;
      asked =
          c.asked_with-self.result;
    } in let mid_so =
    counted_so old call.new.seat call.new.sampler call.new.log c.asked_with-self.result
    (allotment.asks_of stage old.asked) c.asked_with-self.ensures in
    let can = allot_can pool old mid c.args.name size class stage c.requires.context c.requires.fits.0 mid_so
    call.result
    call.ensures c.requires.room c.requires.replies in
    record { begun = can.begun; few = can.few; room = can.room }

pub conclude-requires-in-Done-Full : goal.conclude-requires-in-Done-Full
conclude-requires-in-Done-Full c =
    let old = c.args.self.now in let pool = c.args.pool.now in let size = c.args.size in let class = c.args.class in
    let stage = c.args.stage in let call = c.allot-step in
    let mid : Context = record old {
      seat = call.new.seat;
      sampler = call.new.sampler;
      notes = call.new.log;
      asked =
          c.asked_with-self.result;
    } in let mid_so =
    counted_so old call.new.seat call.new.sampler call.new.log c.asked_with-self.result
    (allotment.asks_of stage old.asked) c.asked_with-self.ensures in
    let can = allot_can pool old mid c.args.name size class stage c.requires.context c.requires.fits.0 mid_so
    call.result
    call.ensures c.requires.room c.requires.replies in
    record { begun = can.begun; few = can.few; room = can.room }

pub returns-in-Done-New : goal.returns-in-Done-New
returns-in-Done-New c = λ s command are.
    let old = c.args.self.now in let pool = c.args.pool.now in let size = c.args.size in let class = c.args.class in
    let stage = c.args.stage in let call = c.allot-step in
    let mid : Context = record old {
      seat = call.new.seat;
      sampler = call.new.sampler;
      notes = call.new.log;
      asked =
          c.asked_with-self.result;
    } in let mid_so =
    counted_so old call.new.seat call.new.sampler call.new.log c.asked_with-self.result
    (allotment.asks_of stage old.asked) c.asked_with-self.ensures in
    let did = done_with (allotment.HasAllotted pool old.seat mid.seat old.sampler mid.sampler old.notes
    mid.notes size class stage) c.in-Done-New.is (rw c.in-Done-New.is at c.in-Done-New.field-0-is) call.ensures in
    let new = c.conclude.new.self in let cs = c.add.new.self in let root = c.in-Done-New.root in
    let bound : c.bind.new.self ≡ slice_set mid.names c.args.name (Some (Plain (root_view root))) = c.bind.ensures
    ∙ ap (λ (v : ViewData). slice_set mid.names c.args.name (Some (Plain v))) c.of_root.ensures in
    allot_new pool old mid c.args.name size class stage c.requires.context c.requires.fits.0 mid_so s command are
    c.requires.name c.requires.fits.2 new root c.in-Done-New.region did cs
    (record { counts = c.add.ensures.counts; places = c.add.ensures.places }) c.conclude.result
    (subst (λ (names : List (Option Bound)). Concludes (record mid { names = names; counts = cs }) new
    (Reply.OkPlace c.in-Done-New.region.place.len c.in-Done-New.region.place) c.conclude.result) bound
    c.conclude.ensures)

pub returns-in-Done-NoHandle : goal.returns-in-Done-NoHandle
returns-in-Done-NoHandle c = λ s command are.
    let old = c.args.self.now in let pool = c.args.pool.now in let size = c.args.size in let class = c.args.class in
    let stage = c.args.stage in let call = c.allot-step in
    let mid : Context = record old {
      seat = call.new.seat;
      sampler = call.new.sampler;
      notes = call.new.log;
      asked =
          c.asked_with-self.result;
    } in let mid_so =
    counted_so old call.new.seat call.new.sampler call.new.log c.asked_with-self.result
    (allotment.asks_of stage old.asked) c.asked_with-self.ensures in
    let did = done_with (allotment.HasAllotted pool old.seat mid.seat old.sampler mid.sampler old.notes
    mid.notes size class stage) c.in-Done-NoHandle.is
    (rw c.in-Done-NoHandle.is at c.in-Done-NoHandle.field-0-is) call.ensures in
    allot_refused pool old mid c.args.name size class stage c.requires.context c.requires.fits.0 mid_so s command are
    c.requires.name c.requires.fits.2 c.conclude-in-Done-NoHandle.new.self (Done NoHandle) Reply.Handles refl refl
    (λ root. refl) refl (λ log some. some) refl did c.conclude-in-Done-NoHandle.result
    c.conclude-in-Done-NoHandle.ensures

pub returns-in-Done-Full : goal.returns-in-Done-Full
returns-in-Done-Full c = λ s command are.
    let old = c.args.self.now in let pool = c.args.pool.now in let size = c.args.size in let class = c.args.class in
    let stage = c.args.stage in let call = c.allot-step in
    let mid : Context = record old {
      seat = call.new.seat;
      sampler = call.new.sampler;
      notes = call.new.log;
      asked =
          c.asked_with-self.result;
    } in let mid_so =
    counted_so old call.new.seat call.new.sampler call.new.log c.asked_with-self.result
    (allotment.asks_of stage old.asked) c.asked_with-self.ensures in
    let did = done_with (allotment.HasAllotted pool old.seat mid.seat old.sampler mid.sampler old.notes
    mid.notes size class stage) c.in-Done-Full.is (rw c.in-Done-Full.is at c.in-Done-Full.field-0-is) call.ensures in
    allot_refused pool old mid c.args.name size class stage c.requires.context c.requires.fits.0 mid_so s command are
    c.requires.name c.requires.fits.2 c.conclude-in-Done-Full.new.self (Done Full) Reply.Full refl refl (λ root. refl)
    refl (λ log some. some) refl did c.conclude-in-Done-Full.result c.conclude-in-Done-Full.ensures
