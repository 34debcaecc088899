use Rattle.std.proofs.Common.{◌≡◌, ◌%◌, ◌<◌, sym, ap, ◌∙◌, subst, refl}
use Rattle.std.specs.Prelude.{false, ℕ, Option, Some, None, IfSome, unwrap_or}
use Rattle.size_classes.specs.Sizes.{class_count}
use Rattle.pool_law.specs.declared.id.Region.{Region}
use Rattle.pool_law.specs.declared.note.Noted.{Noted}
use Rattle.pool_law.specs.declared.note.Object.TheVariants.{Arena}
use Rattle.pool_law.specs.Limits.{geometry_of}
use Rattle.pool_arena.specs.ArenaStates.{IsInPlaceAt}
use Rattle.pool_arena.specs.Standing.{taken_or_full}
use Rattle.pool_table.specs.declared.views.Layout.{Layout}
use Rattle.shared_pool.specs.declared.seat.PoolSeat.{PoolSeat}
use Rattle.shared_pool.specs.Holding.{HoldsRegion}
use Rattle.shared_pool.specs.Notes.{plain}
use Rattle.shared_pool.specs.SeatLanes.{lane_of}
use Rattle.shared_pool.specs.Seats.{IsNoted}
use Rattle.shared_pool.specs.Standing.{IsArena, IfArena, HasClassLength}
use Rattle.shared_pool.proofs.ArenaHands.{took_region}
use Rattle.shared_pool.proofs.ArenaHomes.{is_arena, few_takings, next_take, not_yet, on_ground}
use Rattle.shared_pool.proofs.Endings.{IsNext, stood, ends, made}
use Rattle.shared_pool.proofs.SeatCalls.{seat_did}
use Rattle.shared_pool.proofs.SeatEnds.{held_seat}
use Rattle.shared_pool.proofs.pool.SharedPool.take.Goals as goal

pub take-region-requires-clause-takings : goal.take-region-requires-clause-takings
take-region-requires-clause-takings c =
    few_takings c.args.self.now.table.layout (c.lane_of-lane.result % c.args.self.now.layout.shape.arenas)
    c.args.seat.now.seat c.claim.new.seat c.in-Ok.section c.in-Ok.ensures.got c.requires.seat.setting
    c.requires.seat.settled

pub note-number-requires-clause-section : goal.note-number-requires-clause-section
note-number-requires-clause-section c =
    let got = c.in-Ok.ensures.got in let take = c.take-region in let seat = c.requires.seat in let l =
    c.args.self.now.table.layout in let number = c.lane_of-lane.result % c.args.self.now.layout.shape.arenas in
    ends l (Arena number) c.args.seat.now.seat c.claim.new.seat c.in-Ok.section got seat.setting seat.settled
    take.new.section c.noted-noted.result
    (next_take l number c.args.seat.now.seat c.claim.new.seat c.in-Ok.section got seat.setting seat.settled
    take.new.section
    (taken_or_full c.args.class take.result) take.ensures.same.0 take.ensures.same.1
    take.ensures.arena take.ensures.stands c.noted-noted.result (c.noted-noted.ensures ∙ ap plain c.taken.ensures))

pub returns-clause-did : goal.returns-clause-did
returns-clause-did c =
    let new : PoolSeat = record c.args.seat.now { seat = c.note-number.new.seat } in
    let got = c.in-Ok.ensures.got in let take = c.take-region in let seat = c.requires.seat in let l =
    c.args.self.now.table.layout in let number = c.lane_of-lane.result % c.args.self.now.layout.shape.arenas in
    let n : c.noted-noted.result ≡ plain (taken_or_full c.args.class take.result) = c.noted-noted.ensures
    ∙ ap plain c.taken.ensures in
    subst (λ (x : ℕ × ℕ × Noted). IsNoted c.args.self.now c.args.seat.now new (Arena (x.0 % x.1))
    c.note-number.result x.2) (λ i.
    (c.lane_of-lane.ensures.lane i, (sym c.args.self.now.same_layout i).shape.arenas, n i))
    (made l (Arena number) c.args.seat.now c.claim.new.seat c.in-Ok.section got seat.setting seat.settled
    c.args.self.now c.note-number.new.seat take.new.section c.note-number.result c.noted-noted.result refl
    (next_take l number c.args.seat.now.seat c.claim.new.seat c.in-Ok.section got seat.setting seat.settled
    take.new.section
    (taken_or_full c.args.class take.result) take.ensures.same.0 take.ensures.same.1
    take.ensures.arena take.ensures.stands c.noted-noted.result n) c.note-number.ensures.number
    c.note-number.ensures.noted)

pub returns-clause-region : goal.returns-clause-region
returns-clause-region c =
    go c.take-region.result (c.noted-noted.ensures ∙ ap plain c.taken.ensures) c.take-region.ensures.region
    c.take-region.ensures.place
  where
    new : PoolSeat
    new = record c.args.seat.now { seat = c.note-number.new.seat }

    l : Layout
    l = c.args.self.now.table.layout

    number : ℕ
    number = c.lane_of-lane.result % c.args.self.now.layout.shape.arenas

    follows : IsNext l (Arena number) c.args.seat.now.seat c.claim.new.seat c.in-Ok.section c.in-Ok.ensures.got
        c.requires.seat.setting c.requires.seat.settled c.take-region.new.section c.noted-noted.result
    follows =
        next_take l number c.args.seat.now.seat c.claim.new.seat c.in-Ok.section c.in-Ok.ensures.got
        c.requires.seat.setting
        c.requires.seat.settled c.take-region.new.section (taken_or_full c.args.class c.take-region.result)
        c.take-region.ensures.same.0 c.take-region.ensures.same.1
        c.take-region.ensures.arena c.take-region.ensures.stands c.noted-noted.result
        (c.noted-noted.ensures ∙ ap plain c.taken.ensures)

    noted : IsNoted c.args.self.now c.args.seat.now new (Arena number) c.note-number.result
        c.noted-noted.result
    noted =
        made l (Arena number) c.args.seat.now c.claim.new.seat c.in-Ok.section c.in-Ok.ensures.got
        c.requires.seat.setting c.requires.seat.settled c.args.self.now c.note-number.new.seat
        c.take-region.new.section c.note-number.result c.noted-noted.result refl follows
        c.note-number.ensures.number c.note-number.ensures.noted

    was : IsArena c.in-Ok.section.home
    was =
        is_arena c.requires.seat.setting c.in-Ok.ensures.got.history number l.shape.order l.shape.page l.shape.chunks
        c.in-Ok.section.home
        (stood l (Arena number) c.args.seat.now.seat c.claim.new.seat c.in-Ok.section c.in-Ok.ensures.got
        c.requires.seat.setting c.requires.seat.settled)

    below : lane_of c.args.seat.now < l.shape.lanes
    below = subst (λ (o : Option ℕ). unwrap_or o 0 < l.shape.lanes) (sym c.requires.seat.number) c.requires.seat.below

    go : (r : Option Region) → c.noted-noted.result ≡ plain (taken_or_full c.args.class r)
        → IfSome r (λ x. (x.id.owner ≡ c.lane_of-lane.result) × (x.id.class ≡ c.args.class) × (x.id.uses ≡ 0)
        × HasClassLength x.id) → IfSome r (λ x. IfArena c.in-Ok.section.home (λ a. IsInPlaceAt a x.id x.piece)) →
        IfSome r (λ x. HoldsRegion c.args.self.now new x × (x.id.owner ≡ lane_of c.args.seat.now)
        × (x.id.class ≡ c.args.class) × (x.id.uses ≡ 0))
    go None n region place = tt
    go (Some r) n region place =
        let owner : r.id.owner ≡ lane_of c.args.seat.now = region.0 ∙ c.lane_of-lane.ensures.lane in (
          took_region c.args.self.now c.args.seat.now new (Arena number) c.note-number.result
              c.args.class r c.requires.seat.setting c.requires.seat.settled
              (subst (λ (x : Noted). IsNoted c.args.self.now c.args.seat.now new (Arena number)
              c.note-number.result x) n noted)
              (not_yet l number c.args.seat.now.seat c.claim.new.seat c.in-Ok.section c.in-Ok.ensures.got
              c.requires.seat.setting c.requires.seat.settled c.take-region.new.section c.noted-noted.result
              c.args.class r.id n follows)
              region.2 (on_ground l number c.args.seat.now.seat c.claim.new.seat c.in-Ok.section c.in-Ok.ensures.got
              c.requires.seat.setting c.requires.seat.settled r.id r.piece was place)
              (subst (λ (k : ℕ). k < l.shape.lanes) (sym owner) below)
              (subst (λ (k : ℕ). k < class_count (geometry_of l.shape)) (sym region.1) c.requires.class)
              region.3,
          owner,
          region.1,
          region.2,
        )

pub returns-clause-seat : goal.returns-clause-seat
returns-clause-seat c =
    seat_did c.args.self.now c.args.seat.now c.claim.new.seat c.note-number.new.seat
    (Arena (lane_of c.args.seat.now % c.args.self.now.table.layout.shape.arenas)) c.note-number.result _ refl
    c.requires.seat
    c.claim.ensures.same c.note-number.ensures.same c.note-number.ensures.counts (returns-clause-did c)

pub returns-in-Err-clause-seat : goal.returns-in-Err-clause-seat
returns-in-Err-clause-seat c =
    held_seat c.args.self.now (Arena (c.lane_of-lane.result % c.args.self.now.layout.shape.arenas)) false
    c.args.seat.now
    (record c.args.seat.now { seat = c.claim.new.seat }) c.in-Err.held c.requires.seat c.claim.ensures.same refl refl
    c.in-Err.ensures.held
