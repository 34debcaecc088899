use Rattle.std.proofs.Common.{ap}
use Rattle.lane_stages.proofs.NextNotes.{then_begins, given_begins}
use Rattle.lane_stages.specs.declared.retirement.Ending.TheVariants.{Arena, Home}
use Rattle.pool_law.specs.declared.id.Region.{Region}
use Rattle.lane_stages.specs.Endings.{hand_of}
use Rattle.lane_stages.proofs.EndSteps.{given_back, found_held, region_still}
use Rattle.seat_work.proofs.Holds.{holds_region}
use Rattle.pool_law.specs.declared.note.Object.TheVariants.{Arena as ArenaObject}
use Rattle.lane_stages.proofs.retirement.give_back.Goals as goal

pub give-requires-clause-region : goal.give-requires-clause-region
give-requires-clause-region c =
    let may = c.requires.may in
    holds_region c.args.pool.now c.args.seat.now (hand_of (Home c.args.handle)) c.args.region may.hand may.fits.1

pub returns-in-Did : goal.returns-in-Did
returns-in-Did c =
    given_back c.args.pool.now c.args.seat.now c.give.new.seat c.in-Did.ensures.seat c.in-Did.ensures.same
    c.in-Did.number c.note_at.result c.args.log.now c.write_note.new.log c.write_note.ensures c.args.handle
    c.args.region
    c.requires.may c.in-Did.ensures.did c.note_at.ensures

pub returns-in-Held : goal.returns-in-Held
returns-in-Held c =
    let pool = c.args.pool.now in let old = c.args.seat.now in let new = c.give.new.seat in let held = c.in-Held in
    let may = c.requires.may in let o = ArenaObject c.args.region.id.place.arena in
    found_held pool old new held.ensures.seat held.ensures.same o held.held (Arena c.args.region c.args.handle)
    (Arena held.region c.args.handle) c.args.log.now may held.ensures.held.1
    (ap (λ (r : Region). Arena r c.args.handle) held.ensures.held.0) (
      may.fits.0,
      region_still pool old new held.ensures.seat held.ensures.same o held.held c.args.region
          (Arena c.args.region c.args.handle) may held.ensures.held.1 may.fits.1,
    ) (then_begins o _ _ (given_begins c.args.region.id))
