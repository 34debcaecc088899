use Rattle.std.proofs.Common.{◌≡◌, ◌∙◌, refl, subst}
use Rattle.pool_law.specs.declared.note.Note.{Note}
use Rattle.pool_law.specs.declared.note.Object.TheVariants.{Cache}
use Rattle.shared_pool.specs.SeatViews.{view_of}
use Rattle.shared_pool.specs.SeatLanes.{lane_of}
use Rattle.lane_stages.proofs.NextNotes.{drain_begins}
use Rattle.lane_stages.specs.declared.draining.Draining.TheVariants.{Ask}
use Rattle.lane_stages.specs.declared.draining.DrainKind.{DrainKind}
use Rattle.lane_stages.specs.declared.draining.DrainKind.TheVariants.{Close}
use Rattle.seat_work.specs.Hands.{IsHeld}
use Rattle.lane_stages.specs.Drainings.{hand_of, quota_note}
use Rattle.lane_stages.proofs.DrainSteps.{gave_quota, found_held}
use Rattle.seat_work.proofs.Holds.{none_left, not_closed_yet}
use Rattle.lane_stages.proofs.draining.ask.Goals as goal

pub quota-requires-clause-no_quota : goal.quota-requires-clause-no_quota
quota-requires-clause-no_quota c =
    none_left (view_of c.args.seat.now) (hand_of c.args.kind (Ask c.args.class)) c.args.class c.requires.may.hand

pub quota-requires-clause-not_closed : goal.quota-requires-clause-not_closed
quota-requires-clause-not_closed c = λ closes.
    let hand : IsHeld (hand_of Close (Ask c.args.class)) (view_of c.args.seat.now) =
    subst (λ (k : DrainKind). IsHeld (hand_of k (Ask c.args.class)) (view_of c.args.seat.now)) closes
    c.requires.may.hand in
    not_closed_yet (view_of c.args.seat.now) (hand_of Close (Ask c.args.class)) c.args.class hand

pub returns-in-Did : goal.returns-in-Did
returns-in-Did c =
    let old = c.args.seat.now in let did = c.in-Did in let class = c.args.class in
    let it : c.note_at.result ≡ Note.At (Cache (lane_of old) class) did.number (quota_note c.args.kind did.quota) =
    c.note_at.ensures ∙ (λ i. Note.At (Cache (c.lane_of.ensures.lane i) class) did.number (c.noted.ensures i)) in
    gave_quota c.args.pool.now old c.quota.new.seat did.ensures.seat did.ensures.same c.args.kind class did.number
    c.note_at.result c.args.log.now c.write_note.new.log c.write_note.ensures did.quota c.after.result c.requires.may
    did.ensures.did did.ensures.bound c.after.ensures.next c.after.ensures.hand c.after.ensures.read it

pub returns-in-Held : goal.returns-in-Held
returns-in-Held c =
    let old = c.args.seat.now in let held = c.in-Held in let class = c.args.class in
    found_held c.args.pool.now old c.quota.new.seat held.ensures.seat held.ensures.same c.args.kind
    (Cache (lane_of old) class) held.held (Ask class) (Ask class) c.args.log.now c.requires.may held.ensures.held
    refl (drain_begins c.args.kind (lane_of old) class c.requires.may.fits)
