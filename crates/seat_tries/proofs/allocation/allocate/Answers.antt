use Rattle.std.proofs.Common.{subst, arith, ◌∙◌, refl, sym}
use Rattle.std.specs.Prelude.{Option, Some, None, IfSome, ◌≡◌}
use Rattle.handle_bin.specs.Bins.{HandleValue}
use Rattle.pool_law.specs.declared.note.Object.TheVariants.{Bin}
use Rattle.shared_pool.specs.Holding.{HoldsHandle}
use Rattle.shared_pool.specs.Notes.{plain, popped}
use Rattle.shared_pool.specs.SeatLanes.{lane_of}
use Rattle.shared_pool.specs.Seats.{IsNoted}
use Rattle.seat_work.specs.Answers.{handle_told, with_place}
use Rattle.seat_work.specs.Changes.{no_change}
use Rattle.seat_work.specs.Hands.{empty_hand}
use Rattle.seat_work.proofs.Calls.{popped_handle, some_handle}
use Rattle.seat_work.proofs.Later.{later_has, later_noted, quiet_popped}
use Rattle.seat_work.proofs.Proceeding.{proceeds_none, works_after}
use Rattle.seat_tries.specs.Allocations.{allocated}
use Rattle.seat_tries.proofs.Goings.{goes_then, if_born_later, if_cause_first, leaves_none, meets, works_less}
use Rattle.seat_work.proofs.Handles.{handle_noted}
use Rattle.seat_tries.proofs.TriedNotes.{got_then, noted_lane}
use Rattle.seat_tries.proofs.allocation.allocate.Goals as goal

pub allocate_at-requires-clause-works : goal.allocate_at-requires-clause-works
allocate_at-requires-clause-works c =
    let pool = c.args.pool.now in let old = c.args.seat.now in let mid = c.pop_handle.new.seat in
    let did = c.in-Did-default-Some in let works = c.requires.works in
    works_after pool empty_hand (with_place did.handle.place) 6 0 1 0 5 0 old mid works
    (popped_handle pool old mid did.ensures.seat did._number (Some did.handle)
    (works_less pool empty_hand 6 0 1 0 old works (omega arith) (omega arith))
    (subst (λ (o : Option HandleValue). IsNoted pool old mid (Bin (lane_of old)) did._number (plain (popped o)))
    did.field-1-is did.ensures.did)).goes (omega arith) (omega arith)

pub allocate_at-requires-clause-handle : goal.allocate_at-requires-clause-handle
allocate_at-requires-clause-handle c =
    let pool = c.args.pool.now in let mid = c.pop_handle.new.seat in let did = c.in-Did-default-Some in
    let lane = lane_of c.args.seat.now in
    some_handle pool mid (Some did.handle) lane
    (subst (λ (o : Option HandleValue). IfSome o (λ h. HoldsHandle pool mid h × (h.lane ≡ lane))) did.field-1-is
    did.ensures.handle)

pub returns-in-Did-default-Some-clause-goes : goal.returns-in-Did-default-Some-clause-goes
returns-in-Did-default-Some-clause-goes c =
    let pool = c.args.pool.now in let old = c.args.seat.now in let mid = c.pop_handle.new.seat in
    let did = c.in-Did-default-Some in let works = c.requires.works in let next = c.allocate_at in
    goes_then pool (allocated next.result.0) (with_place did.handle.place) 1 5 6 old mid next.new.seat next.result.1
    (later_noted pool old mid did.ensures.same works.seat did.ensures.seat did.ensures.did (quiet_popped _))
    (omega arith)
    (popped_handle pool old mid did.ensures.seat did._number (Some did.handle)
    (works_less pool empty_hand 6 0 1 0 old works (omega arith) (omega arith))
    (subst (λ (o : Option HandleValue). IsNoted pool old mid (Bin (lane_of old)) did._number (plain (popped o)))
    did.field-1-is did.ensures.did)) next.ensures.goes

pub returns-in-Did-default-Some-clause-born : goal.returns-in-Did-default-Some-clause-born
returns-in-Did-default-Some-clause-born c =
    let pool = c.args.pool.now in let old = c.args.seat.now in let mid = c.pop_handle.new.seat in
    let did = c.in-Did-default-Some in let next = c.allocate_at in
    if_born_later pool old mid next.new.seat next.result.0
    (later_noted pool old mid did.ensures.same c.requires.works.seat did.ensures.seat did.ensures.did (quiet_popped _))
    next.ensures.born

pub returns-in-Did-default-Some-clause-cause : goal.returns-in-Did-default-Some-clause-cause
returns-in-Did-default-Some-clause-cause c =
    let pool = c.args.pool.now in let old = c.args.seat.now in let mid = c.pop_handle.new.seat in
    let did = c.in-Did-default-Some in let next = c.allocate_at in
    if_cause_first pool old mid next.new.seat did.handle.place next.result.0
    (later_noted pool old mid did.ensures.same c.requires.works.seat did.ensures.seat did.ensures.did (quiet_popped _))
    (record {
      same = did.ensures.same;
      number = did._number;
      noted =
          subst (λ (o : Option HandleValue). IsNoted pool old mid (Bin (lane_of old)) did._number (plain (popped o)))
          did.field-1-is did.ensures.did;
    }) next.ensures.cause

pub returns-in-Did-default-None-clause-goes : goal.returns-in-Did-default-None-clause-goes
returns-in-Did-default-None-clause-goes c =
    let pool = c.args.pool.now in let old = c.args.seat.now in let new = c.pop_handle.new.seat in
    let did = c.in-Did-default-None in let works = c.requires.works in
    leaves_none pool (handle_told None) 1 6 old new (omega arith)
    (popped_handle pool old new did.ensures.seat did._number None
    (works_less pool empty_hand 6 0 1 0 old works (omega arith) (omega arith))
    (subst (λ (o : Option HandleValue). IsNoted pool old new (Bin (lane_of old)) did._number (plain (popped o)))
    did.field-1-is did.ensures.did))
    (later_noted pool old new did.ensures.same works.seat did.ensures.seat did.ensures.did (quiet_popped _))

pub returns-in-Held-clause-goes : goal.returns-in-Held-clause-goes
returns-in-Held-clause-goes c =
    let pool = c.args.pool.now in let old = c.args.seat.now in let new = c.pop_handle.new.seat in
    let held = c.in-Held in let works = c.requires.works in
    leaves_none pool no_change 0 6 old new (omega arith)
    (proceeds_none pool empty_hand 6 0 0 0 old new works held.ensures.seat held.ensures.held.marked)
    (later_has pool old new held.ensures.same works.seat held.ensures.seat held.ensures.held.marked)

pub returns-in-Held-clause-cause : goal.returns-in-Held-clause-cause
returns-in-Held-clause-cause c =
    let held = c.in-Held in
    meets c.args.pool.now c.args.seat.now c.pop_handle.new.seat (Bin (lane_of c.args.seat.now)) held._held
    c.requires.works.seat held.ensures.seat held.ensures.held

pub allocate_at-requires-clause-own : goal.allocate_at-requires-clause-own
allocate_at-requires-clause-own c =
    let pool = c.args.pool.now in let old = c.args.seat.now in let mid = c.pop_handle.new.seat in
    let did = c.in-Did-default-Some in let lane = lane_of old in
    (subst (λ (o : Option HandleValue). IfSome o (λ h. HoldsHandle pool mid h × (h.lane ≡ lane))) did.field-1-is
    did.ensures.handle).1 ∙ sym (noted_lane pool old mid _ did._number _ did.ensures.did)

pub returns-in-Did-default-Some-clause-allots : goal.returns-in-Did-default-Some-clause-allots
returns-in-Did-default-Some-clause-allots c =
    let a = c.args in let pool = a.pool.now in let old = a.seat.now in let mid = c.pop_handle.new.seat in
    let did = c.in-Did-default-Some in let next = c.allocate_at in
    got_then pool old mid next.new.seat a.class a.size a.watch next.result.0 next.result.1 did.handle.place did._number
    c.requires.class did.handle refl
    (subst (λ (o : Option HandleValue). IsNoted pool old mid (Bin (lane_of old)) did._number (plain (popped o)))
    did.field-1-is did.ensures.did) next.ensures.allots

pub returns-in-Did-default-None-clause-allots : goal.returns-in-Did-default-None-clause-allots
returns-in-Did-default-None-clause-allots c =
    let pool = c.args.pool.now in let old = c.args.seat.now in let new = c.pop_handle.new.seat in
    let did = c.in-Did-default-None in
    handle_noted pool old new None did._number
    (subst (λ (o : Option HandleValue). IsNoted pool old new (Bin (lane_of old)) did._number (plain (popped o)))
    did.field-1-is did.ensures.did) c.args.size
