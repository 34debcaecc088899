use Rattle.std.proofs.Common.{◌≡◌, ℕ, ◌/◌, ◌∙◌, ap, sym, subst}
use Rattle.pool_law.specs.declared.note.Did.{Did}
use Rattle.pool_law.specs.declared.note.Note.{Note}
use Rattle.pool_law.specs.declared.note.Object.TheVariants.{Bin}
use Rattle.pool_law.specs.Dids as says
use Rattle.handle_bin.specs.Bins.{HandleValue}
use Rattle.lane_stages.proofs.NextNotes.{note_begins}
use Rattle.lane_stages.specs.Endings.{goes_home}
use Rattle.lane_stages.specs.NextNotes.{BeginsAt}
use Rattle.lane_stages.specs.declared.retirement.Ending.TheVariants.{Home}
use Rattle.seat_work.specs.Hands.{empty_hand}
use Rattle.lane_stages.proofs.EndSteps.{gone_home, found_held}
use Rattle.seat_work.proofs.Holds.{holds_handle}
use Rattle.lane_stages.proofs.retirement.go_home.Goals as goal

pub put_handle-requires-clause-handle : goal.put_handle-requires-clause-handle
put_handle-requires-clause-handle c =
    holds_handle c.args.pool.now c.args.seat.now empty_hand c.args.handle c.requires.may.hand c.requires.may.fits

pub returns-in-Did : goal.returns-in-Did
returns-in-Did c =
    let handle = c.args.handle in let did = c.in-Did in
    let it : c.note_at.result ≡ Note.At (Bin handle.lane) did.number (Did.Home handle.place) = c.note_at.ensures
    ∙ (λ i. Note.At (Bin (c.lane.ensures i)) did.number (Did.Home (c.place-place.ensures i))) in
    gone_home c.args.pool.now c.args.seat.now c.put_handle.new.seat did.ensures.seat did.ensures.same did.number
    c.note_at.result c.args.log.now c.write_note.new.log c.write_note.ensures handle c.requires.may did.ensures.did it

pub returns-in-Held : goal.returns-in-Held
returns-in-Held c =
    let handle = c.args.handle in let held = c.in-Held in let shape = c.args.pool.now.table.layout.shape in
    found_held c.args.pool.now c.args.seat.now c.put_handle.new.seat held.ensures.seat held.ensures.same
    (Bin handle.lane) held.held (Home handle) (Home held.handle) c.args.log.now c.requires.may held.ensures.held.1
    (ap (λ (h : HandleValue). Home h) held.ensures.held.0) c.requires.may.fits
    (subst (λ (l : ℕ). BeginsAt (Bin l) (goes_home shape handle.place)) (sym c.requires.may.fits.lane)
    (note_begins (says.home handle.place) (Bin (handle.place / shape.handles))))
