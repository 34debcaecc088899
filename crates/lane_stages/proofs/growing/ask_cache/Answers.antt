use Rattle.std.proofs.Common.{◌≡◌, ◌∙◌, subst}
use Rattle.std.specs.Prelude.{Option, IfSome}
use Rattle.pool_law.specs.declared.id.Region.{Region}
use Rattle.pool_law.specs.declared.note.Did.{Did}
use Rattle.pool_law.specs.declared.note.Note.{Note}
use Rattle.pool_law.specs.declared.note.Object.TheVariants.{Cache}
use Rattle.shared_pool.specs.Holding.{HoldsRegion}
use Rattle.shared_pool.specs.Notes.{plain, hit}
use Rattle.shared_pool.specs.SeatLanes.{lane_of}
use Rattle.shared_pool.specs.Seats.{IsNoted}
use Rattle.lane_stages.proofs.GrowAsks.{cache_hit, cache_empty, cache_busy}
use Rattle.lane_stages.proofs.growing.ask_cache.Goals as goal

pub returns-in-Did-default-Some : goal.returns-in-Did-default-Some
returns-in-Did-default-Some c =
    let pool = c.args.pool.now in let old = c.args.seat.now in let new = c.pop_cached.new.seat in let did =
    c.in-Did-default-Some in let want = c.args.want in let class = want.class in
    let noted = subst (λ (x : Option Region). IsNoted pool old new (Cache (lane_of old) class) did.number
    (plain (hit x))) did.field-1-is did.ensures.did in
    let holds = subst (λ (x : Option Region). IfSome x
    (λ r. HoldsRegion pool new r × (r.id.owner ≡ lane_of old) × (r.id.class ≡ class))) did.field-1-is
    did.ensures.region in
    let it : c.note_at.result ≡ Note.At (Cache (lane_of old) class) did.number (Did.Hit did.region.id) =
    c.note_at.ensures
    ∙ (λ i. Note.At (Cache (c.lane_of.ensures.lane i) class) did.number (Did.Hit did.region.id)) in
    cache_hit pool old new want.root want.size class did.ensures.seat did.ensures.same c.requires.may did.number
    c.note_at.result c.args.log.now c.write_note.new.log c.write_note.ensures did.region noted holds.0 holds.2 it

pub returns-in-Did-default-None : goal.returns-in-Did-default-None
returns-in-Did-default-None c =
    let pool = c.args.pool.now in let old = c.args.seat.now in let new = c.pop_cached.new.seat in let did =
    c.in-Did-default-None in let want = c.args.want in let class = want.class in
    let call = c.note_at-in-Did-default-None in let wrote = c.write_note-in-Did-default-None in
    let noted = subst (λ (x : Option Region). IsNoted pool old new (Cache (lane_of old) class) did.number
    (plain (hit x))) did.field-1-is did.ensures.did in
    let it : call.result ≡ Note.At (Cache (lane_of old) class) did.number Did.Miss = call.ensures
    ∙ (λ i. Note.At (Cache (c.lane_of.ensures.lane i) class) did.number Did.Miss) in
    cache_empty pool old new want.root want.size class did.ensures.seat did.ensures.same c.requires.may did.number
    call.result c.args.log.now wrote.new.log wrote.ensures noted it

pub returns-in-Held : goal.returns-in-Held
returns-in-Held c =
    let want = c.args.want in let wrote = c.write_note-in-Held in
    cache_busy c.args.pool.now c.args.seat.now c.pop_cached.new.seat want.root want.size want.class
    c.in-Held.ensures.seat c.in-Held.ensures.same c.requires.may c.in-Held.held c.args.log.now wrote.new.log
    wrote.ensures c.in-Held.ensures.held
