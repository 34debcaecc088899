use Rattle.std.proofs.Common.{◌≡◌, ◌%◌, ◌∙◌, subst, refl, []}
use Rattle.std.specs.Prelude.{Option, IfSome}
use Rattle.pool_law.specs.declared.id.Region.{Region}
use Rattle.pool_law.specs.declared.note.Did.{Did}
use Rattle.pool_law.specs.declared.note.Note.{Note}
use Rattle.pool_law.specs.declared.note.Object.{Object}
use Rattle.pool_law.specs.declared.note.Object.TheVariants.{Arena}
use Rattle.pool_arena.specs.Standing.{taken_or_full}
use Rattle.shared_pool.specs.Holding.{HoldsRegion}
use Rattle.shared_pool.specs.Notes.{plain}
use Rattle.shared_pool.specs.SeatLanes.{lane_of}
use Rattle.shared_pool.specs.Seats.{IsNoted}
use Rattle.lane_stages.proofs.NextNotes.{then_begins, arena_begins}
use Rattle.lane_stages.specs.declared.allotment.Allotting.TheVariants.{Arena as AskArena}
use Rattle.lane_stages.proofs.AllotSteps.{arena_gave, arena_was_full, found_held, own_still}
use Rattle.seat_work.proofs.Grown.{grows_held}
use Rattle.lane_stages.proofs.allotment.ask_arena.Goals as goal

pub returns-in-Did-default-Some : goal.returns-in-Did-default-Some
returns-in-Did-default-Some c = λ sampler size.
    let pool = c.args.pool.now in let old = c.args.seat.now in let new = c.take.new.seat in let did =
    c.in-Did-default-Some in let class = c.args.class in
    let o : Object = Arena (lane_of old % pool.table.layout.shape.arenas) in
    let noted = subst (λ (x : Option Region). IsNoted pool old new o did.number (plain (taken_or_full class x)))
    did.field-1-is did.ensures.did in
    let holds = subst (λ (x : Option Region). IfSome x
    (λ r. HoldsRegion pool new r × (r.id.owner ≡ lane_of old) × (r.id.class ≡ class) × (r.id.uses ≡ 0)))
    did.field-1-is did.ensures.region in
    let it : c.note_at.result ≡ Note.At o did.number (Did.Take class did.region.id) = c.note_at.ensures
    ∙ (λ i. Note.At (Arena (c.lane_of.ensures.lane i % (c.requires.shape i).arenas)) did.number
    (Did.Take class did.region.id)) in
    arena_gave pool old new class did.ensures.seat did.ensures.same did.number c.note_at.result c.args.log.now
    c.write_note.new.log c.write_note.ensures sampler size c.args.handle did.region c.requires.may noted holds.0
    holds.2 it

pub returns-in-Did-default-None : goal.returns-in-Did-default-None
returns-in-Did-default-None c = λ sampler size.
    let pool = c.args.pool.now in let old = c.args.seat.now in let new = c.take.new.seat in let did =
    c.in-Did-default-None in let class = c.args.class in
    let o : Object = Arena (lane_of old % pool.table.layout.shape.arenas) in
    let noted = subst (λ (x : Option Region). IsNoted pool old new o did.number (plain (taken_or_full class x)))
    did.field-1-is did.ensures.did in
    let at = c.note_at-in-Did-default-None in let wrote = c.write_note-in-Did-default-None in
    let it : at.result ≡ Note.At o did.number (Did.Full class) = at.ensures
    ∙ (λ i. Note.At (Arena (c.lane_of.ensures.lane i % (c.requires.shape i).arenas)) did.number (Did.Full class)) in
    arena_was_full pool old new class did.ensures.seat did.ensures.same did.number at.result c.args.log.now
    wrote.new.log wrote.ensures sampler size c.args.handle c.requires.may noted it

pub returns-in-Held : goal.returns-in-Held
returns-in-Held c = λ sampler size.
    let pool = c.args.pool.now in let old = c.args.seat.now in let new = c.take.new.seat in let held = c.in-Held in
    let may = c.requires.may in
    let o : Object = Arena (lane_of old % pool.table.layout.shape.arenas) in
    let grows = grows_held pool old new may.seat_is held.ensures.seat o held.held held.ensures.held in
    found_held pool old new c.args.class held.ensures.seat held.ensures.same o held.held (AskArena c.args.handle)
    (AskArena c.args.handle) c.args.log.now sampler size tt may held.ensures.held refl
    (own_still pool old new c.args.class held.ensures.seat held.ensures.same c.args.handle [] 0 grows may.fits)
    (then_begins o _ _ (arena_begins pool.table.layout.shape (lane_of old) c.args.class))
