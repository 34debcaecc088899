use Rattle.std.proofs.Common.{◌≡◌, ◌%◌, ◌∙◌, subst, refl}
use Rattle.std.specs.Prelude.{Option, IfSome}
use Rattle.pool_law.specs.declared.id.Region.{Region}
use Rattle.pool_law.specs.declared.note.Did.{Did}
use Rattle.pool_law.specs.declared.note.Note.{Note}
use Rattle.pool_law.specs.declared.note.Object.{Object}
use Rattle.pool_law.specs.declared.note.Object.TheVariants.{Arena}
use Rattle.pool_arena.specs.Standing.{taken_or_full}
use Rattle.shared_pool.specs.Holding.{HoldsRegion}
use Rattle.shared_pool.specs.Notes.{plain}
use Rattle.shared_pool.specs.SeatLanes.{lane_of}
use Rattle.shared_pool.specs.Seats.{IsNoted}
use Rattle.lane_stages.specs.declared.growing.Growing.TheVariants.{Arena as AskArena}
use Rattle.lane_stages.proofs.GrowAsks.{arena_gave, arena_was_full}
use Rattle.lane_stages.proofs.GrowSteps.{grow_held}
use Rattle.lane_stages.proofs.NextNotes.{then_begins, arena_begins}
use Rattle.lane_stages.proofs.growing.ask_arena.Goals as goal

pub returns-in-Did-default-Some : goal.returns-in-Did-default-Some
returns-in-Did-default-Some c =
    let pool = c.args.pool.now in let old = c.args.seat.now in let new = c.take.new.seat in let did =
    c.in-Did-default-Some in let want = c.args.want in let class = want.class in
    let o : Object = Arena (lane_of old % pool.table.layout.shape.arenas) in
    let noted = subst (λ (x : Option Region). IsNoted pool old new o did.number (plain (taken_or_full class x)))
    did.field-1-is did.ensures.did in
    let holds = subst (λ (x : Option Region). IfSome x
    (λ r. HoldsRegion pool new r × (r.id.owner ≡ lane_of old) × (r.id.class ≡ class) × (r.id.uses ≡ 0)))
    did.field-1-is did.ensures.region in
    let it : c.note_at.result ≡ Note.At o did.number (Did.Take class did.region.id) = c.note_at.ensures
    ∙ (λ i. Note.At (Arena (c.lane_of.ensures.lane i % (c.requires.shape i).arenas)) did.number
    (Did.Take class did.region.id)) in
    arena_gave pool old new want.root want.size class did.ensures.seat did.ensures.same c.requires.may did.number
    c.note_at.result c.args.log.now c.write_note.new.log c.write_note.ensures did.region noted holds.0 holds.2 it

pub returns-in-Did-default-None : goal.returns-in-Did-default-None
returns-in-Did-default-None c =
    let pool = c.args.pool.now in let old = c.args.seat.now in let new = c.take.new.seat in let did =
    c.in-Did-default-None in let want = c.args.want in let class = want.class in
    let o : Object = Arena (lane_of old % pool.table.layout.shape.arenas) in
    let noted = subst (λ (x : Option Region). IsNoted pool old new o did.number (plain (taken_or_full class x)))
    did.field-1-is did.ensures.did in
    let at = c.note_at-in-Did-default-None in let wrote = c.write_note-in-Did-default-None in
    let it : at.result ≡ Note.At o did.number (Did.Full class) = at.ensures
    ∙ (λ i. Note.At (Arena (c.lane_of.ensures.lane i % (c.requires.shape i).arenas)) did.number (Did.Full class)) in
    arena_was_full pool old new want.root want.size class did.ensures.seat did.ensures.same c.requires.may did.number
    at.result c.args.log.now wrote.new.log wrote.ensures noted it

pub returns-in-Held : goal.returns-in-Held
returns-in-Held c =
    let pool = c.args.pool.now in let old = c.args.seat.now in let new = c.take.new.seat in let held = c.in-Held in
    let want = c.args.want in let shape = pool.table.layout.shape in
    let o : Object = Arena (lane_of old % shape.arenas) in
    grow_held pool old new want.root want.size want.class held.ensures.seat held.ensures.same o held.held AskArena
    AskArena c.args.log.now c.requires.may refl held.ensures.held refl
    (then_begins o _ _ (arena_begins shape (lane_of old) want.class))
