use Rattle.std.proofs.Common.{subst, arith}
use Rattle.std.specs.Prelude.{Option}
use Rattle.pool_law.specs.declared.note.RefDid.TheVariants.{Born}
use Rattle.pool_law.specs.declared.report.Watch.{Watch}
use Rattle.shared_pool.specs.SeatViews.{view_of}
use Rattle.shared_pool.specs.RootNotes.{birth, IsNotedWith}
use Rattle.lane_stages.specs.declared.allotment.Allotting.TheVariants.{Birth}
use Rattle.lane_stages.specs.Allotments.{hand_of}
use Rattle.lane_stages.proofs.AllotBirths.{root_born}
use Rattle.lane_stages.proofs.LogLaws.{wrote_two, room_behind}
use Rattle.seat_work.proofs.Holds.{holds_handle, holds_region}
use Rattle.lane_stages.proofs.allotment.bear.Goals as goal

pub birth-number-requires-clause-handle : goal.birth-number-requires-clause-handle
birth-number-requires-clause-handle c =
    let may = c.requires.may in
    holds_handle c.args.pool.now c.args.seat.now (hand_of (Birth c.args.handle c.args.region)) c.args.handle may.hand
    may.fits.0

pub birth-number-requires-clause-region : goal.birth-number-requires-clause-region
birth-number-requires-clause-region c =
    let may = c.requires.may in
    holds_region c.args.pool.now c.args.seat.now (hand_of (Birth c.args.handle c.args.region)) c.args.region may.hand
    may.fits.1

pub overflow_add-used : goal.overflow_add-used
overflow_add-used c = let few = c.birth-number.ensures.uses in omega (arith, few)

pub write_note-requires-2 : goal.write_note-requires-2
write_note-requires-2 c = room_behind c.args.log.now c.write_note.new.log c.note_at.result c.write_note.ensures
    c.requires.room

pub returns : goal.returns
returns c =
    let pool = c.args.pool.now in let old = c.args.seat.now in let new = c.birth-number.new.seat in let call =
    c.birth-number in let root = call.result.1 in let last = c.next-watch.new.self in
    let noted = subst (λ (x : Option Watch). IsNotedWith pool old new root call.result.0 (birth root c.args.region.id x)
    Born (view_of old).moves) c.next-watch.ensures.watch call.ensures.did in
    root_born pool old new c.args.region.id.class call.ensures.seat call.ensures.same c.args.handle c.args.region root
    call.result.0 c.args.size c.args.sampler.now last c.note_at.result c.note_to.result c.args.log.now
    c.write_note-2.new.log
    (wrote_two c.args.log.now c.write_note.new.log c.write_note-2.new.log c.note_at.result c.note_to.result
    c.write_note.ensures
    c.write_note-2.ensures) c.requires.may
    noted call.ensures.root.0 call.ensures.root.1 c.next-watch.ensures.births c.note_at.ensures c.note_to.ensures
