use Rattle.std.proofs.Common.{◌≡◌, ℕ, ◌∙◌, ap, sym, subst, [], None}
use Rattle.pool_law.specs.declared.note.Did.{Did}
use Rattle.pool_law.specs.declared.note.Note.{Note}
use Rattle.pool_law.specs.declared.note.Object.{Object}
use Rattle.pool_law.specs.declared.note.Object.TheVariants.{Bin}
use Rattle.pool_law.specs.Patterns.{bear}
use Rattle.shared_pool.specs.SeatLanes.{lane_of}
use Rattle.handle_bin.specs.Bins.{HandleValue}
use Rattle.lane_stages.proofs.NextNotes.{home_begins}
use Rattle.lane_stages.specs.NextNotes.{BeginsAt}
use Rattle.lane_stages.specs.declared.allotment.Allotting.TheVariants.{Home}
use Rattle.seat_work.specs.Hands.{empty_hand}
use Rattle.lane_stages.proofs.AllotSteps.{went_home, found_held, own_still}
use Rattle.seat_work.proofs.Grown.{grows_held}
use Rattle.seat_work.proofs.Holds.{holds_handle}
use Rattle.lane_stages.proofs.allotment.go_home.Goals as goal

pub put_handle-requires-clause-seat : goal.put_handle-requires-clause-seat
put_handle-requires-clause-seat c = (c.requires.may 0).seat_is

pub put_handle-requires-clause-turn : goal.put_handle-requires-clause-turn
put_handle-requires-clause-turn c = (c.requires.may 0).turn

pub put_handle-requires-clause-handle : goal.put_handle-requires-clause-handle
put_handle-requires-clause-handle c =
    holds_handle c.args.pool.now c.args.seat.now empty_hand c.args.handle (c.requires.may 0).hand
    (c.requires.may 0).fits.0

pub returns-in-Did : goal.returns-in-Did
returns-in-Did c = λ sampler size class.
    let handle = c.args.handle in let did = c.in-Did in
    let it : c.note_at.result ≡ Note.At (Bin handle.lane) did.number (Did.Home handle.place) = c.note_at.ensures
    ∙ (λ i. Note.At (Bin (c.lane.ensures i)) did.number (Did.Home (c.place-place.ensures i))) in
    went_home c.args.pool.now c.args.seat.now c.put_handle.new.seat class did.ensures.seat did.ensures.same did.number
    c.note_at.result c.args.log.now c.write_note.new.log c.write_note.ensures sampler size handle (c.requires.may class)
    did.ensures.did it

pub returns-in-Held : goal.returns-in-Held
returns-in-Held c = λ sampler size class.
    let pool = c.args.pool.now in let old = c.args.seat.now in let new = c.put_handle.new.seat in let held =
    c.in-Held in let may = c.requires.may class in let handle = c.args.handle in
    let o : Object = Bin handle.lane in
    let grows = grows_held pool old new may.seat_is held.ensures.seat o held.held held.ensures.held.1 in
    found_held pool old new class held.ensures.seat held.ensures.same o held.held (Home handle) (Home held.handle)
    c.args.log.now sampler size tt may held.ensures.held.1 (ap (λ (h : HandleValue). Home h) held.ensures.held.0)
    (own_still pool old new class held.ensures.seat held.ensures.same handle [] 0 grows may.fits)
    (subst (λ (l : ℕ). BeginsAt (Bin l) (bear (lane_of old) handle.place size None)) (sym may.fits.1)
    (home_begins (lane_of old) handle.place size))
