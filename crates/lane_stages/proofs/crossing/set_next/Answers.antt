use Rattle.std.proofs.Common.{ap, ◌∙◌, List, ◌∷◌, ℕ, length, subst}
use Rattle.pool_law.specs.declared.note.Did.{Did}
use Rattle.pool_law.specs.declared.note.Note.{Note}
use Rattle.pool_law.specs.declared.note.Object.TheVariants.{Root}
use Rattle.shared_pool.specs.SeatViews.{view_of}
use Rattle.shared_pool.specs.RootNotes.{access}
use Rattle.shared_pool.specs.Seats.{IsNoted}
use Rattle.lane_stages.proofs.NextNotes.{set_begins}
use Rattle.lane_stages.specs.Crossings.{bytes_of, parts_of}
use Rattle.lane_stages.specs.declared.crossing.Crossing.TheVariants.{Set}
use Rattle.lane_stages.proofs.CrossSteps.{first_counts, first_range, set_more, set_last, cross_held}
use Rattle.lane_stages.proofs.crossing.set_next.Goals as goal

pub write-requires-clause-counts : goal.write-requires-clause-counts
write-requires-clause-counts c =
    first_counts (view_of c.args.seat.now) c.args.first c.args.later.items c.requires.may.fits.0

pub write-requires-clause-range : goal.write-requires-clause-range
write-requires-clause-range c =
    first_range (view_of c.args.seat.now) c.args.first c.args.later.items c.requires.may.fits.0 c.deref.result.now
    (ap (λ (bytes : List ℕ). length bytes) c.deref.ensures.value)

pub returns-in-Some : goal.returns-in-Some
returns-in-Some c =
    let pool = c.args.pool.now in let old = c.args.seat.now in let new = c.write.new.seat in let did = c.in-Did in
    let first = c.args.first in let root = first.part.root in
    let noted = subst (λ (bytes : List ℕ). IsNoted pool old new (Root root.place) did.number
    (access root (Did.Set first.part.offset bytes))) c.deref.ensures.value did.ensures.did in
    let it = c.note_at.ensures ∙ ap (λ (bytes : List ℕ). Note.At (Root root.place) did.number
    (Did.Set first.part.offset bytes)) c.of-bytes.ensures in
    set_more pool old new did.ensures.seat did.ensures.same first c.args.later c.requires.may did.number noted
    c.note_at.result it c.args.log.now c.write_note.new.log c.write_note.ensures c.in-Some.first c.in-Some.later
    c.in-Some.ensures

pub returns-in-None : goal.returns-in-None
returns-in-None c =
    let pool = c.args.pool.now in let old = c.args.seat.now in let new = c.write.new.seat in let did = c.in-Did in
    let first = c.args.first in let root = first.part.root in
    let noted = subst (λ (bytes : List ℕ). IsNoted pool old new (Root root.place) did.number
    (access root (Did.Set first.part.offset bytes))) c.deref.ensures.value did.ensures.did in
    let it = c.note_at.ensures ∙ ap (λ (bytes : List ℕ). Note.At (Root root.place) did.number
    (Did.Set first.part.offset bytes)) c.of-bytes.ensures in
    set_last pool old new did.ensures.seat did.ensures.same first c.args.later c.requires.may did.number noted
    c.note_at.result it c.args.log.now c.write_note.new.log c.write_note.ensures c.in-None.ensures

pub returns-in-Held : goal.returns-in-Held
returns-in-Held c =
    let held = c.in-Held in
    cross_held c.args.pool.now c.args.seat.now c.write.new.seat held.ensures.seat held.ensures.same
    (Root c.args.first.part.root.place) held.held (Set c.args.first c.args.later) c.args.log.now c.requires.may
    held.ensures.held
    (set_begins c.args.first.part (parts_of c.args.later.items) (bytes_of (c.args.first ∷ c.args.later.items)))
