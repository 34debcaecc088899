use Rattle.std.proofs.Common.{◌≡◌, ap, ◌∙◌, subst, refl, sym}
use Rattle.std.specs.Prelude.{false, ℕ}
use Rattle.pool_law.specs.declared.note.Did.{Did}
use Rattle.pool_law.specs.declared.note.Noted.{Noted}
use Rattle.pool_law.specs.declared.note.Object.TheVariants.{Bin}
use Rattle.pool_table.specs.Seats.{view_of}
use Rattle.shared_pool.specs.declared.seat.PoolSeat.{PoolSeat}
use Rattle.shared_pool.specs.Seats.{IsNoted}
use Rattle.shared_pool.specs.Notes.{plain}
use Rattle.shared_pool.proofs.BinHomes.{next, is_bin}
use Rattle.shared_pool.proofs.Endings.{ends, made, stood}
use Rattle.shared_pool.proofs.PlaceHands.{homeless, comes_home_inside}
use Rattle.shared_pool.proofs.SeatCalls.{seat_did}
use Rattle.shared_pool.proofs.SeatEnds.{held_seat}
use Rattle.shared_pool.proofs.pool.SharedPool.put_handle.Goals as goal

pub put-requires-clause-homeless : goal.put-requires-clause-homeless
put-requires-clause-homeless c =
    let got = c.in-Ok.ensures.got in let seat = c.requires.seat in let h = c.requires.handle in
    let l = c.args.self.now.table.layout in let lane = c.lane.result in
    let home = is_bin seat.setting got.history lane l.shape.handles c.in-Ok.section.home
    (stood l (Bin lane) c.args.seat.now.seat c.claim.new.seat c.in-Ok.section got seat.setting seat.settled) in
    homeless l lane c.args.seat.now.seat c.claim.new.seat c.in-Ok.section got seat.setting seat.settled c.args.handle
    home
    (sym c.lane.ensures) h.lane h.hand

pub note-number-requires-clause-section : goal.note-number-requires-clause-section
note-number-requires-clause-section c =
    let got = c.in-Ok.ensures.got in let put = c.put in let seat = c.requires.seat in
    ends c.args.self.now.table.layout (Bin c.lane.result) c.args.seat.now.seat c.claim.new.seat c.in-Ok.section got
    seat.setting seat.settled put.new.section c.noted-noted.result
    (next c.args.self.now.table.layout c.lane.result c.args.seat.now.seat c.claim.new.seat c.in-Ok.section got
    seat.setting
    seat.settled put.new.section (Did.Home c.args.handle.place) put.ensures.same.0 put.ensures.same.1
    put.ensures.bin put.ensures.stands c.noted-noted.result
    (c.noted-noted.ensures ∙ ap (λ p. plain (Did.Home p)) c.place.ensures))

pub note-number-requires-clause-hands : goal.note-number-requires-clause-hands
note-number-requires-clause-hands c =
    let h = c.requires.handle in let n = c.noted-noted.ensures ∙ ap (λ p. plain (Did.Home p)) c.place.ensures in
    let got = c.in-Ok.ensures.got in
    comes_home_inside (view_of c.claim.new.seat) (view_of c.args.seat.now.seat) (Bin c.lane.result) got.history
    c.args.handle.place c.noted-noted.result.did got.view (ap (λ (x : Noted). x.did) n) h.hand h.waits

pub returns-clause-did : goal.returns-clause-did
returns-clause-did c =
    let new : PoolSeat = record c.args.seat.now { seat = c.note-number.new.seat } in
    let got = c.in-Ok.ensures.got in let put = c.put in let seat = c.requires.seat in
    let n : c.noted-noted.result ≡ plain (Did.Home c.args.handle.place) = c.noted-noted.ensures
    ∙ ap (λ p. plain (Did.Home p)) c.place.ensures in
    subst (λ (x : ℕ × Noted). IsNoted c.args.self.now c.args.seat.now new (Bin x.0)
    c.note-number.result x.1) (λ i. (c.lane.ensures i, n i))
    (made c.args.self.now.table.layout (Bin c.lane.result) c.args.seat.now c.claim.new.seat c.in-Ok.section got
    seat.setting seat.settled c.args.self.now c.note-number.new.seat put.new.section c.note-number.result
    c.noted-noted.result refl
    (next c.args.self.now.table.layout c.lane.result c.args.seat.now.seat c.claim.new.seat c.in-Ok.section got
    seat.setting
    seat.settled put.new.section (Did.Home c.args.handle.place) put.ensures.same.0 put.ensures.same.1
    put.ensures.bin put.ensures.stands c.noted-noted.result n) c.note-number.ensures.number
    c.note-number.ensures.noted)

pub returns-clause-seat : goal.returns-clause-seat
returns-clause-seat c =
    seat_did c.args.self.now c.args.seat.now c.claim.new.seat c.note-number.new.seat
    (Bin c.args.handle.lane) c.note-number.result _ refl c.requires.seat
    c.claim.ensures.same c.note-number.ensures.same c.note-number.ensures.counts (returns-clause-did c)

pub returns-in-Err-clause-seat : goal.returns-in-Err-clause-seat
returns-in-Err-clause-seat c =
    held_seat c.args.self.now (Bin c.lane.result) false c.args.seat.now
    (record c.args.seat.now { seat = c.claim.new.seat }) c.in-Err.held c.requires.seat c.claim.ensures.same refl refl
    c.in-Err.ensures.held
