use Rattle.std.proofs.Common.{◌≡◌, ℕ, ◌<◌, sym, subst, refl, inl, inr, arith, rules}
use Rattle.pool_law.specs.declared.id.RegionId.{RegionId}
use Rattle.pool_law.specs.declared.note.RefDid.TheVariants.{Born}
use Rattle.pool_table.specs.declared.views.SeatView.{SeatView}
use Rattle.pool_table.specs.Hands.{InHand, HasRegion}
use Rattle.pool_table.specs.Seats.{view_of}
use Rattle.shared_pool.specs.PlaceSteps.{used}
use Rattle.shared_pool.specs.RootNotes.{birth}
use Rattle.shared_pool.proofs.BirthCalls.{may_leave, found_worn, may_bear_here, birth_ends, birth_hand, birth_awaited, birth_did, birth_lone, birth_fresh}
use Rattle.shared_pool.proofs.SeatCalls.{seat_did_with, seat_idled}
use Rattle.shared_pool.proofs.pool.SharedPool.try_birth.Goals as goal

pub claim_place-requires-clause-enters : goal.claim_place-requires-clause-enters
claim_place-requires-clause-enters c =
    inr (subst (λ (n : ℕ). InHand n (view_of c.args.seat.now.seat)) (sym c.place-place.ensures) c.requires.handle.hand)

pub unreachable-requires : goal.unreachable-requires
unreachable-requires c =
    c.in-Err.ensures.free (inl (subst (λ (n : ℕ). InHand n (view_of c.args.seat.now.seat)) (sym c.place-place.ensures)
    c.requires.handle.hand))

pub idle-requires-clause-leaves : goal.idle-requires-clause-leaves
idle-requires-clause-leaves c =
    may_leave c.args.self.now c.args.seat.now c.claim_place.new.seat c.place-place.result c.requires.seat
    c.in-Ok.section
    c.is_worn.new.section c.is_worn.ensures.same c.in-Ok.ensures.got c.args.handle c.place-place.ensures
    c.requires.handle

pub returns-then-is_worn-clause-worn : goal.returns-then-is_worn-clause-worn
returns-then-is_worn-clause-worn c =
    found_worn c.args.self.now c.args.seat.now c.claim_place.new.seat c.place-place.result c.requires.seat
    c.in-Ok.section
    c.is_worn.new.section c.is_worn.ensures.same c.in-Ok.ensures.got c.args.handle c.place-place.ensures
    c.requires.handle
    (c.is_worn.ensures.worn c.if-is_worn.true)

pub returns-then-is_worn-clause-uses : goal.returns-then-is_worn-clause-uses
returns-then-is_worn-clause-uses c = c.in-Ok.ensures.got.learned.uses c.args.region.id c.requires.region.hand

pub overflow_add-used : goal.overflow_add-used
overflow_add-used c =
    let u : ℕ = c.args.region.id.uses in let small : u < 4611686018427387904 =
    c.in-Ok.ensures.got.learned.uses c.args.region.id c.requires.region.hand in
    omega (arith, small)

pub bear-root-requires-clause-uses : goal.bear-root-requires-clause-uses
bear-root-requires-clause-uses c =
    let u : ℕ = c.args.region.id.uses in let small : u < 4611686018427387904 =
    c.in-Ok.ensures.got.learned.uses c.args.region.id c.requires.region.hand in let g : u < 18446744073709551615 =
    omega (arith, small) in
    g

pub bear-root-requires-clause-vacant : goal.bear-root-requires-clause-vacant
bear-root-requires-clause-vacant c =
    may_bear_here c.args.self.now c.args.seat.now c.claim_place.new.seat c.place-place.result c.requires.seat
    c.in-Ok.section
    c.is_worn.new.section c.is_worn.ensures.same c.in-Ok.ensures.got c.args.handle c.place-place.ensures
    c.requires.handle
    (c.is_worn.ensures.young c.if-is_worn.false)

pub note-number-requires-clause-section : goal.note-number-requires-clause-section
note-number-requires-clause-section c =
    let call = c.bear-root in
    birth_ends c.args.self.now c.args.seat.now c.claim_place.new.seat c.place-place.result c.requires.seat
    c.in-Ok.section
    c.is_worn.new.section c.is_worn.ensures.same c.in-Ok.ensures.got c.args.handle c.place-place.ensures
    c.requires.handle
    (c.is_worn.ensures.young c.if-is_worn.false) c.args.region c.requires.region c.args.capacity
    c.requires.capacity c.args.watch call.new.section call.result call.ensures.same call.ensures.place call.ensures.root
    call.ensures.next call.ensures.born

pub note-number-requires-clause-hands : goal.note-number-requires-clause-hands
note-number-requires-clause-hands c =
    let got = c.in-Ok.ensures.got in let id = c.args.region.id in
    subst (λ (w : SeatView). InHand c.bear-root.result.place w × ((x : RegionId) × HasRegion x w × (used id ≡ used x)))
    (sym got.view) (
      subst (λ (n : ℕ). InHand n (view_of c.args.seat.now.seat)) (sym c.bear-root.ensures.root.0)
          c.requires.handle.hand,
      (id, record { taking = c.requires.region.hand.taking; uses = c.requires.region.hand.uses }, refl),
    )

pub birth-root-requires-clause-hand : goal.birth-root-requires-clause-hand
birth-root-requires-clause-hand c =
    let call = c.bear-root in
    birth_hand c.args.self.now c.args.seat.now c.claim_place.new.seat c.place-place.result c.requires.seat
    c.in-Ok.section
    c.is_worn.new.section c.is_worn.ensures.same c.in-Ok.ensures.got c.args.handle c.place-place.ensures
    c.requires.handle
    (c.is_worn.ensures.young c.if-is_worn.false) c.args.region c.requires.region c.args.capacity
    c.requires.capacity c.args.watch call.new.section call.result call.ensures.same call.ensures.place call.ensures.root
    call.ensures.next call.ensures.born
    c.note-number.new.seat c.note-number.result c.note-number.ensures.number
    c.note-number.ensures.noted

pub birth-root-requires-clause-waits : goal.birth-root-requires-clause-waits
birth-root-requires-clause-waits c =
    let call = c.bear-root in
    birth_awaited c.args.self.now c.args.seat.now c.claim_place.new.seat c.place-place.result c.requires.seat
    c.in-Ok.section
    c.is_worn.new.section c.is_worn.ensures.same c.in-Ok.ensures.got c.args.handle c.place-place.ensures
    c.requires.handle
    (c.is_worn.ensures.young c.if-is_worn.false) c.args.region c.requires.region c.args.capacity
    c.requires.capacity c.args.watch call.new.section call.result call.ensures.same call.ensures.place call.ensures.root
    call.ensures.next call.ensures.born
    c.note-number.new.seat c.note-number.result c.note-number.ensures.number
    c.note-number.ensures.noted call.ensures.fits

pub returns-clause-did : goal.returns-clause-did
returns-clause-did c =
    let call = c.bear-root in
    birth_did c.args.self.now c.args.seat.now c.claim_place.new.seat c.place-place.result c.requires.seat
    c.in-Ok.section
    c.is_worn.new.section c.is_worn.ensures.same c.in-Ok.ensures.got c.args.handle c.place-place.ensures
    c.requires.handle
    (c.is_worn.ensures.young c.if-is_worn.false) c.args.region c.requires.region c.args.capacity
    c.requires.capacity c.args.watch call.new.section call.result call.ensures.same call.ensures.place call.ensures.root
    call.ensures.next call.ensures.born
    c.note-number.new.seat c.note-number.result c.note-number.ensures.number
    c.note-number.ensures.noted c.birth-root.new.seat c.birth-root.result
    c.birth-root.ensures.root c.birth-root.ensures.noted

pub returns-clause-lone : goal.returns-clause-lone
returns-clause-lone c =
    let call = c.bear-root in
    birth_lone c.args.self.now c.args.seat.now c.claim_place.new.seat c.place-place.result c.requires.seat
    c.in-Ok.section
    c.is_worn.new.section c.is_worn.ensures.same c.in-Ok.ensures.got c.args.handle c.place-place.ensures
    c.requires.handle
    (c.is_worn.ensures.young c.if-is_worn.false) c.args.region c.requires.region c.args.capacity
    c.requires.capacity c.args.watch call.new.section call.result call.ensures.same call.ensures.place call.ensures.root
    call.ensures.next call.ensures.born
    c.note-number.new.seat c.note-number.result c.note-number.ensures.number
    c.note-number.ensures.noted c.birth-root.new.seat c.birth-root.result
    c.birth-root.ensures.root c.birth-root.ensures.noted

pub returns-clause-fresh : goal.returns-clause-fresh
returns-clause-fresh c =
    let call = c.bear-root in
    birth_fresh c.args.self.now c.args.seat.now c.claim_place.new.seat c.place-place.result c.requires.seat
    c.in-Ok.section
    c.is_worn.new.section c.is_worn.ensures.same c.in-Ok.ensures.got c.args.handle c.place-place.ensures
    c.requires.handle
    (c.is_worn.ensures.young c.if-is_worn.false) c.args.region c.requires.region c.args.capacity
    c.requires.capacity c.args.watch call.new.section call.result call.ensures.same call.ensures.place call.ensures.root
    call.ensures.next call.ensures.born
    c.note-number.new.seat c.note-number.result c.note-number.ensures.number
    c.note-number.ensures.noted c.birth-root.result c.birth-root.ensures.root

pub returns-clause-uses : goal.returns-clause-uses
returns-clause-uses c = c.in-Ok.ensures.got.learned.uses c.args.region.id c.requires.region.hand

pub returns-clause-seat : goal.returns-clause-seat
returns-clause-seat c =
    let root = c.birth-root.result in
    seat_did_with c.args.self.now c.args.seat.now c.claim_place.new.seat c.note-number.new.seat c.birth-root.new.seat
    root
    c.note-number.result (birth root c.args.region.id c.args.watch) Born (view_of c.args.seat.now.seat).moves
    c.requires.seat c.in-Ok.ensures.same c.note-number.ensures.same c.birth-root.ensures.same
    c.birth-root.ensures.counts_one (returns-clause-did c)

pub returns-then-is_worn-clause-seat : goal.returns-then-is_worn-clause-seat
returns-then-is_worn-clause-seat c =
    seat_idled c.args.self.now c.args.seat.now c.claim_place.new.seat c.idle.new.seat c.requires.seat
    c.in-Ok.ensures.same c.idle.ensures.same (search rules)
