use Rattle.std.proofs.Common.{◌≡◌, ap, ◌∙◌, subst, refl}
use Rattle.std.specs.Prelude.{Option, IfSome, true}
use Rattle.step_law.specs.Settings.{Setting}
use Rattle.pool_law.specs.Places.{IsInPlace}
use Rattle.pool_law.specs.declared.note.Noted.{Noted}
use Rattle.pool_law.specs.declared.note.Object.TheVariants.{Cache}
use Rattle.history_laws.specs.Measures.{measures_of}
use Rattle.pool_table.specs.Seats.{view_of}
use Rattle.shared_pool.specs.declared.seat.PoolSeat.{PoolSeat}
use Rattle.shared_pool.specs.CacheAnswers.{was_put}
use Rattle.shared_pool.specs.Notes.{plain}
use Rattle.shared_pool.specs.Seats.{IsNoted}
use Rattle.shared_pool.proofs.CacheHands.{puts_down, put_own}
use Rattle.shared_pool.proofs.CacheHomes.{next}
use Rattle.shared_pool.proofs.Endings.{ends, made, stood}
use Rattle.shared_pool.proofs.SeatCalls.{seat_did}
use Rattle.shared_pool.proofs.SeatEnds.{held_seat}
use Rattle.shared_pool.proofs.pool.SharedPool.put_cached.Goals as goal

pub note-number-requires-clause-section : goal.note-number-requires-clause-section
note-number-requires-clause-section c =
    let got = c.in-Ok.ensures.got in let seat = c.requires.seat in let old = c.args.seat.now in
    let l = c.args.self.now.table.layout in let r = c.args.region in
    let here = subst (λ (y : Option Setting). IfSome y (λ t. IsInPlace t.grounds r.id.place r.piece)) seat.settled
    c.requires.region.here in
    ends l (Cache r.id.owner r.id.class) old.seat c.claim.new.seat c.in-Ok.section got seat.setting seat.settled
    c.put-put.new.section c.noted-noted.result
    (next l r.id.owner r.id.class old.seat c.claim.new.seat c.in-Ok.section got seat.setting seat.settled
    c.put-put.new.section (was_put r.id c.put-put.result) c.put-put.ensures.same.0 c.put-put.ensures.same.1
    c.put-put.ensures.cache (put_own r.id c.put-put.result)
    (λ m did_is. c.put-put.ensures.stands (measures_of l.shape (Cache r.id.owner r.id.class)) seat.setting got.history m
    did_is here c.requires.region.len
    (stood l (Cache r.id.owner r.id.class) old.seat c.claim.new.seat c.in-Ok.section got seat.setting seat.settled))
    c.noted-noted.result (c.noted-noted.ensures ∙ ap plain c.answered.ensures))

pub note-number-requires-clause-hands : goal.note-number-requires-clause-hands
note-number-requires-clause-hands c =
    let got = c.in-Ok.ensures.got in let r = c.args.region in
    puts_down (view_of c.claim.new.seat) (view_of c.args.seat.now.seat) (Cache r.id.owner r.id.class) got.history r.id
    c.put-put.result c.noted-noted.result.did got.view
    (ap (λ (x : Noted). x.did) (c.noted-noted.ensures ∙ ap plain c.answered.ensures)) c.requires.region.hand

pub returns-clause-did : goal.returns-clause-did
returns-clause-did c =
    let new : PoolSeat = record c.args.seat.now { seat = c.note-number.new.seat } in
    let got = c.in-Ok.ensures.got in let seat = c.requires.seat in let old = c.args.seat.now in
    let l = c.args.self.now.table.layout in let r = c.args.region in
    let here = subst (λ (y : Option Setting). IfSome y (λ t. IsInPlace t.grounds r.id.place r.piece)) seat.settled
    c.requires.region.here in
    let n : c.noted-noted.result ≡ plain (was_put r.id c.put-put.result) = c.noted-noted.ensures
    ∙ ap plain c.answered.ensures in
    subst (IsNoted c.args.self.now old new (Cache r.id.owner r.id.class) c.note-number.result) n
    (made l (Cache r.id.owner r.id.class) old c.claim.new.seat c.in-Ok.section got seat.setting seat.settled
    c.args.self.now c.note-number.new.seat c.put-put.new.section c.note-number.result c.noted-noted.result refl
    (next l r.id.owner r.id.class old.seat c.claim.new.seat c.in-Ok.section got seat.setting seat.settled
    c.put-put.new.section (was_put r.id c.put-put.result) c.put-put.ensures.same.0 c.put-put.ensures.same.1
    c.put-put.ensures.cache (put_own r.id c.put-put.result)
    (λ m did_is. c.put-put.ensures.stands (measures_of l.shape (Cache r.id.owner r.id.class)) seat.setting got.history m
    did_is here c.requires.region.len
    (stood l (Cache r.id.owner r.id.class) old.seat c.claim.new.seat c.in-Ok.section got seat.setting seat.settled))
    c.noted-noted.result n) c.note-number.ensures.number c.note-number.ensures.noted)

pub returns-clause-seat : goal.returns-clause-seat
returns-clause-seat c =
    seat_did c.args.self.now c.args.seat.now c.claim.new.seat c.note-number.new.seat
    (Cache c.args.region.id.owner c.args.region.id.class) c.note-number.result _ refl c.requires.seat
    c.claim.ensures.same c.note-number.ensures.same c.note-number.ensures.counts (returns-clause-did c)

pub returns-in-Err-clause-seat : goal.returns-in-Err-clause-seat
returns-in-Err-clause-seat c =
    held_seat c.args.self.now (Cache c.args.region.id.owner c.args.region.id.class) true c.args.seat.now
    (record c.args.seat.now { seat = c.claim.new.seat }) c.in-Err.held c.requires.seat c.claim.ensures.same refl refl
    c.in-Err.ensures.held
