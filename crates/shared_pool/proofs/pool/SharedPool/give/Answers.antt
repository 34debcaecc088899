use Rattle.std.proofs.Common.{false, sym, ap, subst, refl}
use Rattle.size_classes.specs.Sizes.{IsPage}
use Rattle.pool_law.specs.declared.note.Did.{Did}
use Rattle.pool_law.specs.declared.note.Noted.{Noted}
use Rattle.pool_law.specs.declared.note.Object.TheVariants.{Arena}
use Rattle.pool_table.specs.declared.views.Layout.{Layout}
use Rattle.pool_table.specs.declared.views.SeatView.{SeatView}
use Rattle.pool_table.specs.Hands.{PutsDown}
use Rattle.shared_pool.specs.declared.seat.PoolSeat.{PoolSeat}
use Rattle.shared_pool.specs.Seats.{IsNoted}
use Rattle.shared_pool.proofs.ArenaHomes.{is_arena, out_of, next_give}
use Rattle.shared_pool.proofs.Endings.{stood, ends, made}
use Rattle.shared_pool.proofs.SeatCalls.{seat_did}
use Rattle.shared_pool.proofs.SeatEnds.{held_seat}
use Rattle.shared_pool.proofs.pool.SharedPool.give.Goals as goal

pub give-requires-clause-out : goal.give-requires-clause-out
give-requires-clause-out c =
    let page =
    subst (λ (y : Layout). IsPage y.shape.page) (sym c.args.self.now.same_layout) c.args.self.now.shape.page in
    out_of c.args.self.now.table.layout c.args.region.id.place.arena c.args.seat.now.seat c.claim.new.seat
    c.in-Ok.section c.in-Ok.ensures.got c.requires.seat.setting c.requires.seat.settled page c.args.region.id refl
    c.requires.region.hand.taking

pub note-number-requires-clause-section : goal.note-number-requires-clause-section
note-number-requires-clause-section c =
    let got = c.in-Ok.ensures.got in let give = c.give in let seat = c.requires.seat in let l =
    c.args.self.now.table.layout in let number = c.args.region.id.place.arena in
    ends l (Arena number) c.args.seat.now.seat c.claim.new.seat c.in-Ok.section got seat.setting seat.settled
    give.new.section c.noted-noted.result
    (next_give l number c.args.seat.now.seat c.claim.new.seat c.in-Ok.section got seat.setting seat.settled
    give.new.section
    c.args.region.id give.ensures.same.0 give.ensures.same.1
    (is_arena seat.setting got.history number l.shape.order l.shape.page l.shape.chunks c.in-Ok.section.home
    (stood l (Arena number) c.args.seat.now.seat c.claim.new.seat c.in-Ok.section got seat.setting seat.settled))
    give.ensures.arena give.ensures.gives refl c.requires.region.hand.taking c.noted-noted.result c.noted-noted.ensures)

pub note-number-requires-clause-hands : goal.note-number-requires-clause-hands
note-number-requires-clause-hands c =
    let got = c.in-Ok.ensures.got in
    subst (λ (x : SeatView × Did). PutsDown x.0 x.1)
    (λ i. (sym got.view i, sym (ap (λ (n : Noted). n.did) c.noted-noted.ensures) i))
    (record { taking = c.requires.region.hand.taking; uses = c.requires.region.hand.uses })

pub returns-clause-did : goal.returns-clause-did
returns-clause-did c =
    let new : PoolSeat = record c.args.seat.now { seat = c.note-number.new.seat } in
    let got = c.in-Ok.ensures.got in let give = c.give in let seat = c.requires.seat in let l =
    c.args.self.now.table.layout in let number = c.args.region.id.place.arena in
    subst (λ (x : Noted). IsNoted c.args.self.now c.args.seat.now new (Arena number)
    c.note-number.result x) c.noted-noted.ensures
    (made l (Arena number) c.args.seat.now c.claim.new.seat c.in-Ok.section got seat.setting seat.settled
    c.args.self.now c.note-number.new.seat give.new.section c.note-number.result c.noted-noted.result refl
    (next_give l number c.args.seat.now.seat c.claim.new.seat c.in-Ok.section got seat.setting seat.settled
    give.new.section
    c.args.region.id give.ensures.same.0 give.ensures.same.1
    (is_arena seat.setting got.history number l.shape.order l.shape.page l.shape.chunks c.in-Ok.section.home
    (stood l (Arena number) c.args.seat.now.seat c.claim.new.seat c.in-Ok.section got seat.setting seat.settled))
    give.ensures.arena give.ensures.gives refl c.requires.region.hand.taking c.noted-noted.result c.noted-noted.ensures)
    c.note-number.ensures.number c.note-number.ensures.noted)

pub returns-clause-seat : goal.returns-clause-seat
returns-clause-seat c =
    seat_did c.args.self.now c.args.seat.now c.claim.new.seat c.note-number.new.seat
    (Arena c.args.region.id.place.arena) c.note-number.result _ refl c.requires.seat
    c.claim.ensures.same c.note-number.ensures.same c.note-number.ensures.counts (returns-clause-did c)

pub returns-in-Err-clause-seat : goal.returns-in-Err-clause-seat
returns-in-Err-clause-seat c =
    held_seat c.args.self.now (Arena c.args.region.id.place.arena) false c.args.seat.now
    (record c.args.seat.now { seat = c.claim.new.seat }) c.in-Err.held c.requires.seat c.claim.ensures.same refl refl
    c.in-Err.ensures.held
