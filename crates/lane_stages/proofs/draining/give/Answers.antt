use Rattle.std.proofs.Common.{ap}
use Rattle.pool_law.specs.declared.id.Region.{Region}
use Rattle.pool_law.specs.declared.note.Object.TheVariants.{Arena}
use Rattle.lane_stages.proofs.NextNotes.{then_begins, given_begins}
use Rattle.lane_stages.specs.declared.draining.Draining.TheVariants.{Shed, Give}
use Rattle.lane_stages.specs.Drainings.{hand_of}
use Rattle.lane_stages.proofs.DrainSteps.{gave_one, found_held}
use Rattle.seat_work.proofs.Holds.{holds_region}
use Rattle.lane_stages.proofs.draining.give.Goals as goal

pub give-requires-clause-region : goal.give-requires-clause-region
give-requires-clause-region c =
    let may = c.requires.may in
    holds_region c.args.pool.now c.args.seat.now (hand_of c.args.kind (Shed c.args.class c.args.left)) c.args.region
    may.hand may.fits.1.0

pub returns-in-Did : goal.returns-in-Did
returns-in-Did c =
    let did = c.in-Did in
    gave_one c.args.pool.now c.args.seat.now c.give.new.seat did.ensures.seat did.ensures.same c.args.kind c.args.class
    did.number c.note_at.result c.args.log.now c.write_note.new.log c.write_note.ensures c.args.left c.args.region
    c.after.result
    c.requires.may did.ensures.did c.after.ensures.next c.after.ensures.hand c.after.ensures.read c.note_at.ensures

pub returns-in-Held : goal.returns-in-Held
returns-in-Held c =
    let held = c.in-Held in let class = c.args.class in let left = c.args.left in
    found_held c.args.pool.now c.args.seat.now c.give.new.seat held.ensures.seat held.ensures.same c.args.kind
    (Arena c.args.region.id.place.arena) held.held (Give class left c.args.region) (Give class left held.region)
    c.args.log.now c.requires.may held.ensures.held.1
    (ap (λ (r : Region). Give class left r) held.ensures.held.0)
    (then_begins (Arena c.args.region.id.place.arena) _ _ (given_begins c.args.region.id))
