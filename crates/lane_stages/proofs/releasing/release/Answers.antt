use Rattle.std.proofs.Common.{◌+◌, ◌≤◌, [], ◌∷◌, length, sym, subst, arith, Option}
use Rattle.std.specs.Prelude.{vec_capacity}
use Rattle.pool_law.specs.declared.note.Note.{Note}
use Rattle.shared_pool.specs.SeatViews.{view_of}
use Rattle.shared_pool.specs.declared.went.Release.{Release}
use Rattle.shared_pool.specs.RootNotes.{IsReleasedAs}
use Rattle.lane_stages.specs.declared.retirement.Ending.{Ending}
use Rattle.lane_stages.specs.declared.releasing.Releasing.{Releasing}
use Rattle.lane_stages.specs.declared.stage_step.StageStep.TheVariants.{More, Held as HeldBack, Done}
use Rattle.lane_stages.specs.Logs.{HasWritten}
use Rattle.lane_stages.specs.Releasings.{MayRelease, HasReleased, left_of}
use Rattle.lane_stages.proofs.SeatCounts.{has_count}
use Rattle.lane_stages.proofs.ReleaseSteps.{stage_of, counted_left, may_end, end_more, end_held, end_done, part_kept, part_ended, all_passed}
use Rattle.lane_stages.proofs.releasing.release.Goals as goal

pub end-requires-clause-may : goal.end-requires-clause-may
end-requires-clause-may c =
    let left = c.args.stage.left in let seat = c.args.seat.now in let cs = c.args.counts.now in
    may_end c.args.pool.now seat cs c.in-Some.ending left
    (subst (λ (e : Option Ending). MayRelease c.args.pool.now seat cs (stage_of e left)) c.in-Some.is c.requires.may)

pub end-requires-clause-room : goal.end-requires-clause-room
end-requires-clause-room c =
    let log = c.args.log.now in let left = c.args.stage.left in
    let room = subst (λ (e : Option Ending). length log.items + (left_of (stage_of e left)).notes ≤ vec_capacity log)
    c.in-Some.is c.requires.room in
    omega (arith, room)

pub release-release-requires-clause-counts : goal.release-release-requires-clause-counts
release-release-requires-clause-counts c =
    let may = c.requires.may in
    has_count c.args.counts.now (view_of c.args.seat.now) may.seat_is.alone may.counts c.in-Some-next_counted.root
    c.in-Some-next_counted.ensures.5

pub take-requires : goal.take-requires
take-requires c = c.in-Some-next_counted.ensures.5

pub write_note-requires : goal.write_note-requires
write_note-requires c =
    let room = c.requires.room in let some = counted_left c.args.counts.now c.args.stage.left
    c.next_counted.new.left c.in-Some-next_counted.root c.in-Some-next_counted.ensures in
    omega (arith, room, some)

pub write_note-requires-in-Ended : goal.write_note-requires-in-Ended
write_note-requires-in-Ended c =
    let room = c.requires.room in let some = counted_left c.args.counts.now c.args.stage.left
    c.next_counted.new.left c.in-Some-next_counted.root c.in-Some-next_counted.ensures in
    omega (arith, room, some)

pub returns-in-More : goal.returns-in-More
returns-in-More c =
    let pool = c.args.pool.now in let old = c.args.seat.now in let new = c.end.new.seat in
    let cs = c.args.counts.now in let left = c.args.stage.left in let log = c.args.log.now in
    let later = c.end.new.log in
    let may = subst (λ (e : Option Ending). MayRelease pool old cs (stage_of e left)) c.in-Some.is c.requires.may in
    subst (λ (p : Option Ending × Releasing). HasReleased pool old new cs cs log later (stage_of p.0 left) (More p.1))
    (λ i. (sym c.in-Some.is i, sym c.ended_with.ensures i))
    (end_more pool old new cs c.in-Some.ending left may log later c.in-More.ending c.in-More.ensures)

pub returns-in-Held : goal.returns-in-Held
returns-in-Held c =
    let pool = c.args.pool.now in let old = c.args.seat.now in let new = c.end.new.seat in
    let cs = c.args.counts.now in let left = c.args.stage.left in let log = c.args.log.now in
    let later = c.end.new.log in let held = c.in-Held.held in
    let may = subst (λ (e : Option Ending). MayRelease pool old cs (stage_of e left)) c.in-Some.is c.requires.may in
    subst (λ (p : Option Ending × Releasing). HasReleased pool old new cs cs log later (stage_of p.0 left)
    (HeldBack held p.1)) (λ i. (sym c.in-Some.is i, sym c.ended_with-in-Held.ensures i))
    (end_held pool old new cs c.in-Some.ending left may log later held c.in-Held.ending c.in-Held.ensures)

pub returns-in-Done : goal.returns-in-Done
returns-in-Done c =
    let pool = c.args.pool.now in let old = c.args.seat.now in let new = c.end.new.seat in
    let cs = c.args.counts.now in let left = c.args.stage.left in let log = c.args.log.now in
    let later = c.end.new.log in
    let may = subst (λ (e : Option Ending). MayRelease pool old cs (stage_of e left)) c.in-Some.is c.requires.may in
    subst (λ (p : Option Ending × Releasing). HasReleased pool old new cs cs log later (stage_of p.0 left) (More p.1))
    (λ i. (sym c.in-Some.is i, sym c.ended_with-in-Done.ensures i))
    (end_done pool old new cs c.in-Some.ending left may log later c.in-Done.ensures)

pub returns-in-Kept : goal.returns-in-Kept
returns-in-Kept c =
    let pool = c.args.pool.now in let old = c.args.seat.now in let call = c.release-release in
    let new = call.new.seat in let cs = c.args.counts.now in let ds = c.take.new.self in
    let left = c.args.stage.left in let after = c.next_counted.new.left in let root = c.in-Some-next_counted.root in
    let log = c.args.log.now in let later = c.write_note.new.log in
    let may = subst (λ (e : Option Ending). MayRelease pool old cs (stage_of e left)) c.in_default.is c.requires.may in
    let did = subst (λ (r : Release). IsReleasedAs r root old new) c.in-Kept.is call.ensures.did in
    let adds = subst (λ (n : Note). HasWritten log later (n ∷ [])) c.note_to.ensures c.write_note.ensures in
    subst (λ (p : Option Ending × Releasing). HasReleased pool old new cs ds log later (stage_of p.0 left) (More p.1))
    (λ i. (sym c.in_default.is i, sym c.ended_with-in-Kept.ensures i))
    (part_kept pool old new cs ds left after root may c.in-Some-next_counted.ensures c.take.ensures.counts
    c.take.ensures.places
    call.ensures.seat call.ensures.same log later did adds)

pub returns-in-Ended : goal.returns-in-Ended
returns-in-Ended c =
    let pool = c.args.pool.now in let old = c.args.seat.now in let call = c.release-release in
    let new = call.new.seat in let cs = c.args.counts.now in let ds = c.take.new.self in
    let left = c.args.stage.left in let after = c.next_counted.new.left in let root = c.in-Some-next_counted.root in
    let log = c.args.log.now in let later = c.write_note-in-Ended.new.log in let token = c.in-Ended.token in
    let may = subst (λ (e : Option Ending). MayRelease pool old cs (stage_of e left)) c.in_default.is c.requires.may in
    let did = subst (λ (r : Release). IsReleasedAs r root old new) c.in-Ended.is call.ensures.did in
    let adds = subst (λ (n : Note). HasWritten log later (n ∷ [])) c.note_to-in-Ended.ensures
    c.write_note-in-Ended.ensures in
    subst (λ (p : Option Ending × Releasing). HasReleased pool old new cs ds log later (stage_of p.0 left) (More p.1))
    (λ i. (sym c.in_default.is i, sym c.ended_with-in-Ended.ensures i))
    (part_ended pool old new cs ds left after root may c.in-Some-next_counted.ensures c.take.ensures.counts
    c.take.ensures.places
    call.ensures.seat call.ensures.same log later token did.0 did.1 did.2 adds)

pub returns-in_default-next_counted : goal.returns-in_default-next_counted
returns-in_default-next_counted c =
    let pool = c.args.pool.now in let seat = c.args.seat.now in let cs = c.args.counts.now in
    let left = c.args.stage.left in let log = c.args.log.now in
    let may = subst (λ (e : Option Ending). MayRelease pool seat cs (stage_of e left)) c.in_default.is c.requires.may in
    subst (λ (e : Option Ending). HasReleased pool seat seat cs cs log log (stage_of e left) (Done tt))
    (sym c.in_default.is)
    (all_passed pool seat cs left c.next_counted.new.left log may c.in_default-next_counted.ensures)
