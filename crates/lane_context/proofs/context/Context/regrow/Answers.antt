use Rattle.std.proofs.Common.{◌≡◌, ℕ, ap, ◌∙◌, subst, arith, Some}
use Rattle.std.specs.Prelude.{slice_set}
use Rattle.pool_law.specs.declared.command.Command.{Command}
use Rattle.pool_law.specs.declared.id.ViewData.{ViewData}
use Rattle.pool_law.specs.declared.run.Reply.{Reply}
use Rattle.pool_law.specs.Names.{Plain}
use Rattle.pool_law.specs.Views.{reaching}
use Rattle.lane_context.specs.declared.context.Context.{Context}
use Rattle.lane_stages.specs.Growings as growing
use Rattle.lane_context.specs.ContextSteps.{CanAnswer, Concludes}
use Rattle.lane_context.proofs.GrowTurns.{covers, grow_can, grow_done, grow_full, grow_goes, grow_waits, may_grow, name_within}
use Rattle.lane_context.proofs.StageNeeds.{done_with, log_room}
use Rattle.lane_context.proofs.context.Context.regrow.Goals as goal

-- the context behind a step, with the count that was kept before
counted_so : (old : Context) (seat : _) (notes : _) (m n : ℕ) → m ≡ n
    → record old { seat = seat; notes = notes; asked = m } ≡ record old { seat = seat; notes = notes; asked = n }
counted_so old seat notes m n is = ap (λ (k : ℕ). record old { seat = seat; notes = notes; asked = k }) is

pub asked_with-self-requires : goal.asked_with-self-requires
asked_with-self-requires c = let a = c.requires.may.fits.2 in omega (arith, a)

pub grow-step-requires-clause-may : goal.grow-step-requires-clause-may
grow-step-requires-clause-may c =
    let may = c.requires.may in
    may_grow c.args.pool.now c.args.self.now c.args.view.at.root c.args.size c.args.class c.args.stage may.context
    (may.room (Command.Retain 0)) may.fits.1

pub grow-step-requires-clause-shape : goal.grow-step-requires-clause-shape
grow-step-requires-clause-shape c = c.requires.may.context.shape

pub grow-step-requires-clause-class : goal.grow-step-requires-clause-class
grow-step-requires-clause-class c = c.requires.may.fits.0

pub grow-step-requires-clause-room : goal.grow-step-requires-clause-room
grow-step-requires-clause-room c =
    let may = c.requires.may in
    log_room c.args.pool.now (growing.hand_of c.args.stage) c.args.self.now (growing.left_of c.args.stage) may.context
    (may.room (Command.Retain 0))

pub returns-in-More : goal.returns-in-More
returns-in-More c = λ s command are.
    let old = c.args.self.now in let pool = c.args.pool.now in let v = c.args.view in let size = c.args.size in
    let class = c.args.class in let stage = c.args.stage in let may = c.requires.may in let call = c.grow-step in
    let mid : Context = record old { seat = call.new.seat; notes = call.new.log; asked = c.asked_with-self.result } in
    let mid_so = counted_so old call.new.seat call.new.log c.asked_with-self.result (growing.asks_of stage old.asked)
    c.asked_with-self.ensures in
    grow_goes pool old mid c.args.name v size class stage may.context may.fits.0 mid_so may.name may.fits.2 s command
    are c.in-More.stage
    (subst (growing.HasGrown pool old.seat mid.seat old.notes mid.notes v.at.root size class stage)
    c.in-More.is call.ensures)

pub returns-in-Held : goal.returns-in-Held
returns-in-Held c = λ s command are.
    let old = c.args.self.now in let pool = c.args.pool.now in let v = c.args.view in let size = c.args.size in
    let class = c.args.class in let stage = c.args.stage in let may = c.requires.may in let call = c.grow-step in
    let mid : Context = record old { seat = call.new.seat; notes = call.new.log; asked = c.asked_with-self.result } in
    let mid_so = counted_so old call.new.seat call.new.log c.asked_with-self.result (growing.asks_of stage old.asked)
    c.asked_with-self.ensures in
    grow_waits pool old mid c.args.name v size class stage may.context may.fits.0 mid_so may.name may.fits.2 s command
    are c.in-Held.held c.in-Held.stage
    (subst (growing.HasGrown pool old.seat mid.seat old.notes mid.notes v.at.root size class stage)
    c.in-Held.is call.ensures)

pub reach-requires-clause-covers : goal.reach-requires-clause-covers
reach-requires-clause-covers c =
    let old = c.args.self.now in let pool = c.args.pool.now in let v = c.args.view in let size = c.args.size in
    let class = c.args.class in let stage = c.args.stage in let may = c.requires.may in let call = c.grow-step in
    let mid : Context = record old { seat = call.new.seat; notes = call.new.log; asked = c.asked_with-self.result } in
    let mid_so = counted_so old call.new.seat call.new.log c.asked_with-self.result (growing.asks_of stage old.asked)
    c.asked_with-self.ensures in
    covers pool old mid c.args.name v size class stage may.context may.fits.0 mid_so may.name c.in-Done-Has.capacity
    (done_with (growing.HasGrown pool old.seat mid.seat old.notes mid.notes v.at.root size class stage)
    c.in-Done-Has.is (rw c.in-Done-Has.is at c.in-Done-Has.field-0-is) call.ensures)

pub reach-requires-clause-most : goal.reach-requires-clause-most
reach-requires-clause-most c =
    let old = c.args.self.now in let call = c.grow-step in
    (done_with (growing.HasGrown c.args.pool.now old.seat call.new.seat old.notes call.new.log
    c.args.view.at.root c.args.size c.args.class c.args.stage) c.in-Done-Has.is
    (rw c.in-Done-Has.is at c.in-Done-Has.field-0-is)
    call.ensures).fits.most

pub bind-requires : goal.bind-requires
bind-requires c =
    let old = c.args.self.now in let pool = c.args.pool.now in let v = c.args.view in let size = c.args.size in
    let class = c.args.class in let stage = c.args.stage in let may = c.requires.may in let call = c.grow-step in
    let mid : Context = record old { seat = call.new.seat; notes = call.new.log; asked = c.asked_with-self.result } in
    let mid_so = counted_so old call.new.seat call.new.log c.asked_with-self.result (growing.asks_of stage old.asked)
    c.asked_with-self.ensures in
    name_within pool old mid c.args.name v size class stage may.context may.fits.0 mid_so may.name

pub conclude-requires : goal.conclude-requires
conclude-requires c =
    let old = c.args.self.now in let pool = c.args.pool.now in let v = c.args.view in let size = c.args.size in
    let class = c.args.class in let stage = c.args.stage in let may = c.requires.may in let call = c.grow-step in
    let mid : Context = record old { seat = call.new.seat; notes = call.new.log; asked = c.asked_with-self.result } in
    let mid_so = counted_so old call.new.seat call.new.log c.asked_with-self.result (growing.asks_of stage old.asked)
    c.asked_with-self.ensures in
    let can : CanAnswer mid = grow_can pool old mid c.args.name v size class stage may.context may.fits.0 mid_so
    call.result call.ensures (may.room (Command.Retain 0)) may.replies in
    record { begun = can.begun; few = can.few; room = can.room }

pub conclude-requires-in-Done-Full : goal.conclude-requires-in-Done-Full
conclude-requires-in-Done-Full c =
    let old = c.args.self.now in let pool = c.args.pool.now in let v = c.args.view in let size = c.args.size in
    let class = c.args.class in let stage = c.args.stage in let may = c.requires.may in let call = c.grow-step in
    let mid : Context = record old { seat = call.new.seat; notes = call.new.log; asked = c.asked_with-self.result } in
    let mid_so = counted_so old call.new.seat call.new.log c.asked_with-self.result (growing.asks_of stage old.asked)
    c.asked_with-self.ensures in
    let can : CanAnswer mid = grow_can pool old mid c.args.name v size class stage may.context may.fits.0 mid_so
    call.result call.ensures (may.room (Command.Retain 0)) may.replies in
    record { begun = can.begun; few = can.few; room = can.room }

pub returns-in-Done-Has : goal.returns-in-Done-Has
returns-in-Done-Has c = λ s command are.
    let old = c.args.self.now in let pool = c.args.pool.now in let v = c.args.view in let size = c.args.size in
    let class = c.args.class in let stage = c.args.stage in let may = c.requires.may in let call = c.grow-step in
    let mid : Context = record old { seat = call.new.seat; notes = call.new.log; asked = c.asked_with-self.result } in
    let mid_so = counted_so old call.new.seat call.new.log c.asked_with-self.result (growing.asks_of stage old.asked)
    c.asked_with-self.ensures in
    let new = c.conclude.new.self in let capacity = c.in-Done-Has.capacity in let name = c.args.name in
    let w : ViewData = reaching capacity v.at in
    let bound : c.bind.new.self ≡ slice_set mid.names name (Some (Plain w)) =
    c.bind.ensures ∙ ap (λ (x : ViewData). slice_set mid.names name (Some (Plain x))) c.reach.ensures in
    grow_done pool old mid name v size class stage may.context may.fits.0 mid_so may.name may.fits.2 s command are new
    capacity
    (done_with (growing.HasGrown pool old.seat mid.seat old.notes mid.notes v.at.root size class stage)
    c.in-Done-Has.is (rw c.in-Done-Has.is at c.in-Done-Has.field-0-is) call.ensures) c.conclude.result
    (subst (λ names. Concludes (record mid { names = names }) new (Reply.OkNumber capacity) c.conclude.result) bound
    c.conclude.ensures)

pub returns-in-Done-Full : goal.returns-in-Done-Full
returns-in-Done-Full c = λ s command are.
    let old = c.args.self.now in let pool = c.args.pool.now in let v = c.args.view in let size = c.args.size in
    let class = c.args.class in let stage = c.args.stage in let may = c.requires.may in let call = c.grow-step in
    let mid : Context = record old { seat = call.new.seat; notes = call.new.log; asked = c.asked_with-self.result } in
    let mid_so = counted_so old call.new.seat call.new.log c.asked_with-self.result (growing.asks_of stage old.asked)
    c.asked_with-self.ensures in
    grow_full pool old mid c.args.name v size class stage may.context may.fits.0 mid_so may.name may.fits.2 s command
    are c.conclude-in-Done-Full.new.self
    (done_with (growing.HasGrown pool old.seat mid.seat old.notes mid.notes v.at.root size class stage)
    c.in-Done-Full.is (rw c.in-Done-Full.is at c.in-Done-Full.field-0-is) call.ensures) c.conclude-in-Done-Full.result
    c.conclude-in-Done-Full.ensures
