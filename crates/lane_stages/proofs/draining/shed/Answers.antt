use Rattle.std.proofs.Common.{◌≡◌, ◌∙◌, refl}
use Rattle.pool_law.specs.declared.note.Did.{Did}
use Rattle.pool_law.specs.declared.note.Note.{Note}
use Rattle.pool_law.specs.declared.note.Object.TheVariants.{Cache}
use Rattle.shared_pool.specs.SeatViews.{view_of}
use Rattle.shared_pool.specs.SeatLanes.{lane_of}
use Rattle.lane_stages.proofs.NextNotes.{then_begins, shed_begins}
use Rattle.lane_stages.specs.declared.draining.Draining.TheVariants.{Shed}
use Rattle.lane_stages.specs.Drainings.{hand_of}
use Rattle.lane_stages.proofs.DrainSteps.{shed_one, found_held}
use Rattle.seat_work.proofs.Holds.{some_left}
use Rattle.lane_stages.proofs.draining.shed.Goals as goal

pub shed-requires-clause-quota : goal.shed-requires-clause-quota
shed-requires-clause-quota c =
    let may = c.requires.may in
    some_left (view_of c.args.seat.now) (hand_of c.args.kind (Shed c.args.class c.args.left)) c.args.class c.args.left
    may.fits.1 may.hand

pub returns-in-Did : goal.returns-in-Did
returns-in-Did c =
    let old = c.args.seat.now in let did = c.in-Did in let class = c.args.class in
    let it : c.note_at.result ≡ Note.At (Cache (lane_of old) class) did.number (Did.Shed did.region.id) =
    c.note_at.ensures
    ∙ (λ i. Note.At (Cache (c.lane_of.ensures.lane i) class) did.number (Did.Shed did.region.id)) in
    shed_one c.args.pool.now old c.shed.new.seat did.ensures.seat did.ensures.same c.args.kind class did.number
    c.note_at.result c.args.log.now c.write_note.new.log c.write_note.ensures c.args.left did.region c.requires.may
    did.ensures.did
    did.ensures.region it

pub returns-in-Held : goal.returns-in-Held
returns-in-Held c =
    let old = c.args.seat.now in let held = c.in-Held in let stage = Shed c.args.class c.args.left in
    found_held c.args.pool.now old c.shed.new.seat held.ensures.seat held.ensures.same c.args.kind
    (Cache (lane_of old) c.args.class) held.held stage stage c.args.log.now c.requires.may held.ensures.held refl
    (then_begins (Cache (lane_of old) c.args.class) _ _
    (shed_begins (lane_of old) c.args.class c.args.left c.requires.may.fits.1))
