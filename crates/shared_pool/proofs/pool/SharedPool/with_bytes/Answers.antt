use Rattle.std.proofs.Common.{false, refl, ap, subst, ◌∙◌, ℕ, List}
use Rattle.pool_law.specs.Roots.{bytes_at}
use Rattle.pool_law.specs.declared.note.Did.{Did}
use Rattle.pool_law.specs.declared.note.Object.TheVariants.{Root}
use Rattle.pool_law.specs.declared.report.Access.{Access}
use Rattle.std.specs.Prelude.{length}
use Rattle.shared_pool.specs.PlaceStanding.{home_bytes}
use Rattle.shared_pool.specs.RootNotes.{access}
use Rattle.shared_pool.proofs.Endings.{ends, made}
use Rattle.shared_pool.proofs.LoneSeats.{lone_get}
use Rattle.shared_pool.specs.SeatViews.{view_of}
use Rattle.pool_table.specs.Lone.{own_bytes}
use Rattle.std.specs.Fn.{FnOnceReturnsAt}
use Rattle.shared_pool.proofs.SeatCalls.{seat_did}
use Rattle.shared_pool.proofs.SeatEnds.{held_seat}
use Rattle.shared_pool.proofs.PlaceHomes.{accessible, accessing, counts_root}
use Rattle.shared_pool.proofs.pool.SharedPool.with_bytes.Goals as goal

pub show-answer-requires-clause-may : goal.show-answer-requires-clause-may
show-answer-requires-clause-may g c =
    let l = c.args.self.now.table.layout in let root = c.args.root in let got = c.in-Ok.ensures.got in let seat =
    c.requires.seat in
    accessible l root c.args.seat.now.seat c.claim_place.new.seat c.in-Ok.section got seat.setting seat.settled
    (counts_root l root c.args.seat.now.seat c.claim_place.new.seat c.in-Ok.section got c.requires.counts)
    c.requires.counts
    c.args.offset
    c.args.len c.requires.range

pub note_shown-number-requires-clause-section : goal.note_shown-number-requires-clause-section
note_shown-number-requires-clause-section g c =
    let l = c.args.self.now.table.layout in let root = c.args.root in let got = c.in-Ok.ensures.got in let seat =
    c.requires.seat in let call = c.show-answer in
    let bytes : List ℕ = bytes_at (home_bytes call.new.section.home) c.args.offset c.args.len in
    ends l (Root root.place) c.args.seat.now.seat c.claim_place.new.seat c.in-Ok.section got seat.setting seat.settled
    call.new.section (access root (Did.Get c.args.offset bytes))
    (accessing l root c.args.seat.now.seat c.claim_place.new.seat c.in-Ok.section call.new.section got seat.setting
    seat.settled c.lane_of-lane.result (Did.Get c.args.offset bytes)
    (Access.Get c.lane_of-lane.result c.args.offset (length bytes)) c.requires.counts
    c.lane_of-lane.ensures.number (λ k. refl) refl refl refl refl call.ensures.same.0 call.ensures.same.1
    call.ensures.place call.ensures.did)

pub note_shown-number-requires-clause-object : goal.note_shown-number-requires-clause-object
note_shown-number-requires-clause-object g c = c.show-answer.ensures.same.0 ∙ c.in-Ok.ensures.got.object

pub returns-clause-did : goal.returns-clause-did
returns-clause-did g c =
    let l = c.args.self.now.table.layout in let root = c.args.root in let got = c.in-Ok.ensures.got in let seat =
    c.requires.seat in let call = c.show-answer in
    let bytes : List ℕ = bytes_at (home_bytes call.new.section.home) c.args.offset c.args.len in (
      bytes,
      call.ensures.len,
      call.ensures.answer,
      made l (Root root.place) c.args.seat.now c.claim_place.new.seat c.in-Ok.section got seat.setting seat.settled
          c.args.self.now c.note_shown-number.new.seat call.new.section c.note_shown-number.result
          (access root (Did.Get c.args.offset bytes)) refl
          (accessing l root c.args.seat.now.seat c.claim_place.new.seat c.in-Ok.section call.new.section got
          seat.setting
          seat.settled c.lane_of-lane.result (Did.Get c.args.offset bytes)
          (Access.Get c.lane_of-lane.result c.args.offset (length bytes)) c.requires.counts
          c.lane_of-lane.ensures.number (λ k. refl) refl refl refl refl call.ensures.same.0
          call.ensures.same.1 call.ensures.place call.ensures.did)
          c.note_shown-number.ensures.number c.note_shown-number.ensures.noted,
    )

pub returns-clause-seat : goal.returns-clause-seat
returns-clause-seat g c =
    let did = returns-clause-did g c in
    seat_did c.args.self.now c.args.seat.now c.claim_place.new.seat c.note_shown-number.new.seat
    (Root c.args.root.place)
    c.note_shown-number.result (access c.args.root (Did.Get c.args.offset did.0)) refl c.requires.seat
    c.in-Ok.ensures.same
    c.note_shown-number.ensures.same c.note_shown-number.ensures.counts did.3

pub returns-in-Err-clause-seat : goal.returns-in-Err-clause-seat
returns-in-Err-clause-seat g c =
    held_seat c.args.self.now (Root c.args.root.place) false c.args.seat.now
    (record c.args.seat.now { seat = c.claim_place.new.seat }) c.in-Err.held c.requires.seat c.in-Err.ensures.same refl
    refl c.in-Err.ensures.held

pub returns-clause-lone : goal.returns-clause-lone
returns-clause-lone g c =
    let l = c.args.self.now.table.layout in let root = c.args.root in let got = c.in-Ok.ensures.got in let seat =
    c.requires.seat in let call = c.show-answer in
    let bytes : List ℕ = bytes_at (home_bytes call.new.section.home) c.args.offset c.args.len in
    λ lone. subst (λ (bs : List ℕ). FnOnceReturnsAt g.F.FnOnce c.args.f bs call.result)
    (lone_get l root c.args.seat.now.seat c.claim_place.new.seat c.in-Ok.section got seat.lane c.args.offset
    bytes c.requires.counts seat.number
    (accessing l root c.args.seat.now.seat c.claim_place.new.seat c.in-Ok.section call.new.section got
    seat.setting seat.settled c.lane_of-lane.result (Did.Get c.args.offset bytes)
    (Access.Get c.lane_of-lane.result c.args.offset (length bytes)) c.requires.counts
    c.lane_of-lane.ensures.number (λ k. refl) refl refl refl refl call.ensures.same.0
    call.ensures.same.1 call.ensures.place call.ensures.did).follows lone
    ∙ ap (λ (n : ℕ). bytes_at (own_bytes root (view_of c.args.seat.now)) c.args.offset n) call.ensures.len)
    call.ensures.answer
