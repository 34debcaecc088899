use Rattle.std.proofs.Common.{◌≡◌, ℕ, ap, ◌∙◌, subst, refl}
use Rattle.std.specs.Prelude.{Option, IfSome}
use Rattle.pool_law.specs.declared.note.Did.{Did}
use Rattle.pool_law.specs.declared.note.Note.{Note}
use Rattle.pool_law.specs.declared.note.Object.TheVariants.{Bin}
use Rattle.handle_bin.specs.Bins.{HandleValue}
use Rattle.shared_pool.specs.Holding.{HoldsHandle}
use Rattle.shared_pool.specs.Notes.{plain, popped}
use Rattle.shared_pool.specs.SeatLanes.{lane_of}
use Rattle.shared_pool.specs.Seats.{IsNoted}
use Rattle.lane_stages.proofs.NextNotes.{allot_begins}
use Rattle.lane_stages.specs.declared.allotment.Allotting.TheVariants.{Handle}
use Rattle.lane_stages.proofs.AllotSteps.{asked_none, asked_handle, asked_handle_uncached, found_held}
use Rattle.lane_stages.proofs.allotment.ask_bin.Goals as goal

pub returns-in-Did-default-None : goal.returns-in-Did-default-None
returns-in-Did-default-None c = λ sampler size class_is.
    let pool = c.args.pool.now in let old = c.args.seat.now in let new = c.pop_handle.new.seat in let did =
    c.in-Did-default-None in
    asked_none pool old new c.args.class did.ensures.seat did.ensures.same did.number c.note_at.result c.args.log.now
    c.write_note.new.log c.write_note.ensures sampler size c.requires.may
    (subst (λ (x : Option HandleValue). IsNoted pool old new (Bin (lane_of old)) did.number (plain (popped x)))
    did.field-1-is did.ensures.did)
    (c.note_at.ensures ∙ ap (λ (x : ℕ). Note.At (Bin x) did.number Did.NoHandle) c.lane_of.ensures.lane)

pub returns-then-class-lt-CACHED_CLASSES : goal.returns-then-class-lt-CACHED_CLASSES
returns-then-class-lt-CACHED_CLASSES c = λ sampler size class_is.
    let pool = c.args.pool.now in let old = c.args.seat.now in let new = c.pop_handle.new.seat in let did =
    c.in-Did-default-Some in let at = c.note_at-in-Did-default-Some in let wrote = c.write_note-in-Did-default-Some in
    let noted = subst (λ (x : Option HandleValue). IsNoted pool old new (Bin (lane_of old)) did.number
    (plain (popped x))) did.field-1-is did.ensures.did in
    let holds = subst (λ (x : Option HandleValue). IfSome x (λ h. HoldsHandle pool new h × (h.lane ≡ lane_of old)))
    did.field-1-is did.ensures.handle in
    let it : at.result ≡ Note.At (Bin (lane_of old)) did.number (Did.Handle did.handle.place) = at.ensures
    ∙ (λ i. Note.At (Bin (c.lane_of.ensures.lane i)) did.number (Did.Handle (c.place.ensures i))) in
    asked_handle pool old new c.args.class did.ensures.seat did.ensures.same did.number at.result c.args.log.now
    wrote.new.log wrote.ensures sampler size did.handle class_is c.if-class-lt-CACHED_CLASSES.true c.requires.may
    noted holds.0 holds.1 it

pub returns-else-class-lt-CACHED_CLASSES : goal.returns-else-class-lt-CACHED_CLASSES
returns-else-class-lt-CACHED_CLASSES c = λ sampler size class_is.
    let pool = c.args.pool.now in let old = c.args.seat.now in let new = c.pop_handle.new.seat in let did =
    c.in-Did-default-Some in let at = c.note_at-in-Did-default-Some in let wrote = c.write_note-in-Did-default-Some in
    let noted = subst (λ (x : Option HandleValue). IsNoted pool old new (Bin (lane_of old)) did.number
    (plain (popped x))) did.field-1-is did.ensures.did in
    let holds = subst (λ (x : Option HandleValue). IfSome x (λ h. HoldsHandle pool new h × (h.lane ≡ lane_of old)))
    did.field-1-is did.ensures.handle in
    let it : at.result ≡ Note.At (Bin (lane_of old)) did.number (Did.Handle did.handle.place) = at.ensures
    ∙ (λ i. Note.At (Bin (c.lane_of.ensures.lane i)) did.number (Did.Handle (c.place.ensures i))) in
    asked_handle_uncached pool old new c.args.class did.ensures.seat did.ensures.same did.number at.result
    c.args.log.now wrote.new.log wrote.ensures sampler size did.handle class_is c.if-class-lt-CACHED_CLASSES.false
    c.requires.may noted holds.0 holds.1 it

pub returns-in-Held : goal.returns-in-Held
returns-in-Held c = λ sampler size class_is.
    let old = c.args.seat.now in let held = c.in-Held in
    found_held c.args.pool.now old c.pop_handle.new.seat c.args.class held.ensures.seat held.ensures.same
    (Bin (lane_of old)) held.held Handle Handle c.args.log.now sampler size tt c.requires.may held.ensures.held refl
    tt (allot_begins c.args.pool.now.table.layout.shape (lane_of old) size)
