use Rattle.std.proofs.Common.{ap, refl}
use Rattle.pool_law.specs.declared.id.Region.{Region}
use Rattle.pool_law.specs.declared.note.Object.TheVariants.{Arena}
use Rattle.seat_work.specs.Hands.{empty_hand}
use Rattle.seat_work.proofs.Holds.{holds_region}
use Rattle.lane_stages.specs.declared.growing.Growing.TheVariants.{Give}
use Rattle.lane_stages.proofs.GrowEnds.{given_back}
use Rattle.lane_stages.proofs.GrowSteps.{grow_held}
use Rattle.lane_stages.proofs.NextNotes.{then_begins, given_begins}
use Rattle.lane_stages.proofs.leftover.give_back.Goals as goal

pub give-requires-clause-region : goal.give-requires-clause-region
give-requires-clause-region c =
    let may = c.requires.may in
    holds_region c.args.pool.now c.args.seat.now empty_hand c.args.region may.hand may.fits.0

pub returns-in-Did : goal.returns-in-Did
returns-in-Did c =
    let want = c.args.want in let did = c.in-Did in
    given_back c.args.pool.now c.args.seat.now c.give.new.seat want.root want.size want.class did.ensures.seat
    did.ensures.same c.args.capacity c.args.region c.requires.may did.number c.note_at.result c.args.log.now
    c.write_note.new.log c.write_note.ensures did.ensures.did c.note_at.ensures

pub returns-in-Held : goal.returns-in-Held
returns-in-Held c =
    let want = c.args.want in let held = c.in-Held in let region = c.args.region in
    let o = Arena region.id.place.arena in
    grow_held c.args.pool.now c.args.seat.now c.give.new.seat want.root want.size want.class held.ensures.seat
    held.ensures.same o held.held (Give c.args.capacity region) (Give c.args.capacity held.region) c.args.log.now
    c.requires.may refl held.ensures.held.1 (ap (λ (r : Region). Give c.args.capacity r) held.ensures.held.0)
    (then_begins o _ _ (given_begins region.id))
