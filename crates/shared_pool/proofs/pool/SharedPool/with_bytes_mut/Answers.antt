use Rattle.std.proofs.Common.{false, refl, ◌∙◌, ℕ, List}
use Rattle.pool_law.specs.Roots.{bytes_at}
use Rattle.pool_law.specs.declared.note.Did.{Did}
use Rattle.pool_law.specs.declared.note.Object.TheVariants.{Root}
use Rattle.pool_law.specs.declared.report.Access.{Access}
use Rattle.std.specs.Prelude.{length}
use Rattle.shared_pool.specs.PlaceStanding.{home_bytes}
use Rattle.shared_pool.specs.RootNotes.{access}
use Rattle.shared_pool.proofs.Endings.{ends}
use Rattle.shared_pool.proofs.SeatCalls.{seat_did}
use Rattle.shared_pool.proofs.SeatEnds.{held_seat}
use Rattle.shared_pool.proofs.PlaceHomes.{accessible, accessing, counts_root}
use Rattle.shared_pool.proofs.PlaceSets.{set_over}
use Rattle.shared_pool.proofs.pool.SharedPool.with_bytes_mut.Goals as goal

pub lend-answer-requires-clause-may : goal.lend-answer-requires-clause-may
lend-answer-requires-clause-may g c =
    let l = c.args.self.now.table.layout in let root = c.args.root in let got = c.in-Ok.ensures.got in let seat =
    c.requires.seat in
    accessible l root c.args.seat.now.seat c.claim_place.new.seat c.in-Ok.section got seat.setting seat.settled
    (counts_root l root c.args.seat.now.seat c.claim_place.new.seat c.in-Ok.section got c.requires.counts)
    c.requires.counts
    c.args.offset
    c.args.len c.requires.range

pub note_left-number-requires-clause-section : goal.note_left-number-requires-clause-section
note_left-number-requires-clause-section g c =
    let l = c.args.self.now.table.layout in let root = c.args.root in let got = c.in-Ok.ensures.got in let seat =
    c.requires.seat in let call = c.lend-answer in
    let bytes : List ℕ = bytes_at (home_bytes call.new.section.home) c.args.offset c.args.len in
    ends l (Root root.place) c.args.seat.now.seat c.claim_place.new.seat c.in-Ok.section got seat.setting seat.settled
    call.new.section (access root (Did.Set c.args.offset bytes))
    (accessing l root c.args.seat.now.seat c.claim_place.new.seat c.in-Ok.section call.new.section got seat.setting
    seat.settled c.lane_of-lane.result (Did.Set c.args.offset bytes)
    (Access.Set c.lane_of-lane.result c.args.offset (length bytes)) c.requires.counts
    c.lane_of-lane.ensures.number (λ k. refl) refl refl refl refl call.ensures.same.0 call.ensures.same.1
    call.ensures.place call.ensures.did)

pub note_left-number-requires-clause-object : goal.note_left-number-requires-clause-object
note_left-number-requires-clause-object g c = c.lend-answer.ensures.same.0 ∙ c.in-Ok.ensures.got.object

pub returns-clause-did : goal.returns-clause-did
returns-clause-did g c =
    let l = c.args.self.now.table.layout in let root = c.args.root in let got = c.in-Ok.ensures.got in let seat =
    c.requires.seat in let call = c.lend-answer in
    let before : List ℕ = bytes_at (home_bytes c.in-Ok.section.home) c.args.offset c.args.len in
    let bytes : List ℕ = bytes_at (home_bytes call.new.section.home) c.args.offset c.args.len in (
      before,
      bytes,
      call.ensures.len.0,
      call.ensures.len.1,
      call.ensures.answer,
      set_over l root c.args.seat.now c.claim_place.new.seat c.note_left-number.new.seat c.in-Ok.section
          call.new.section got seat.setting seat.settled c.args.self.now c.note_left-number.result c.args.offset before
          bytes seat.lane seat.number refl
          (accessing l root c.args.seat.now.seat c.claim_place.new.seat c.in-Ok.section call.new.section got
          seat.setting
          seat.settled c.lane_of-lane.result (Did.Set c.args.offset bytes)
          (Access.Set c.lane_of-lane.result c.args.offset (length bytes)) c.requires.counts
          c.lane_of-lane.ensures.number (λ k. refl) refl refl refl refl call.ensures.same.0
          call.ensures.same.1 call.ensures.place call.ensures.did)
          c.note_left-number.ensures.number c.note_left-number.ensures.noted c.requires.counts call.ensures.there,
    )

pub returns-clause-seat : goal.returns-clause-seat
returns-clause-seat g c =
    let did = returns-clause-did g c in
    seat_did c.args.self.now c.args.seat.now c.claim_place.new.seat c.note_left-number.new.seat
    (Root c.args.root.place)
    c.note_left-number.result (access c.args.root (Did.Set c.args.offset did.1)) refl c.requires.seat
    c.in-Ok.ensures.same
    c.note_left-number.ensures.same c.note_left-number.ensures.counts did.5.noted

pub returns-in-Err-clause-seat : goal.returns-in-Err-clause-seat
returns-in-Err-clause-seat g c =
    held_seat c.args.self.now (Root c.args.root.place) false c.args.seat.now
    (record c.args.seat.now { seat = c.claim_place.new.seat }) c.in-Err.held c.requires.seat c.in-Err.ensures.same refl
    refl c.in-Err.ensures.held
