use Rattle.std.proofs.Common.{Some, ◌≡◌, sym, subst, arith}
use Rattle.pool_law.specs.declared.id.Region.{Region}
use Rattle.pool_law.specs.declared.note.Object.TheVariants.{Cache}
use Rattle.shared_pool.specs.declared.went.Put.{Put}
use Rattle.shared_pool.specs.CacheAnswers.{was_put, IfBack}
use Rattle.shared_pool.specs.Notes.{plain}
use Rattle.shared_pool.specs.Seats.{IsNoted}
use Rattle.seat_work.specs.Answers.{with_both, with_place}
use Rattle.seat_work.specs.Changes.{no_change}
use Rattle.seat_work.specs.Works.{Works}
use Rattle.seat_work.proofs.Calls.{kept_region, back_region, marked}
use Rattle.seat_work.proofs.Holds.{holds_region}
use Rattle.seat_work.proofs.Later.{later_noted, later_busy, quiet_put}
use Rattle.seat_work.proofs.Proceeding.{works_after}
use Rattle.seat_tries.proofs.Goings.{goes_then, works_less}
use Rattle.seat_tries.proofs.begun.put_cached.Goals as goal

pub put_cached-requires-clause-region : goal.put_cached-requires-clause-region
put_cached-requires-clause-region c =
    let own = c.args.own in
    holds_region c.args.pool.now c.args.seat.now (with_both c.args.handle.place own.id) own c.requires.works.held
    c.requires.region

pub put_handle-requires-clause-works : goal.put_handle-requires-clause-works
put_handle-requires-clause-works c =
    let pool = c.args.pool.now in let old = c.args.seat.now in let mid = c.put_cached.new.seat in
    let did = c.in-Did-default-Kept in let own = c.args.own in let place = c.args.handle.place in
    let hand = with_both place own.id in
    works_after pool hand (with_place place) 3 0 1 0 1 0 old mid c.requires.works
    (kept_region pool old mid did.ensures.seat did._number (Some place) own
    (works_less pool hand 3 0 1 0 old c.requires.works (omega arith) (omega arith))
    (subst (λ (x : Put).
    IsNoted pool old mid (Cache own.id.owner own.id.class) did._number (plain (was_put own.id x)))
    did.field-1-is did.ensures.did)).goes (omega arith) (omega arith)

pub returns-in-Did-default-Kept : goal.returns-in-Did-default-Kept
returns-in-Did-default-Kept c =
    let pool = c.args.pool.now in let old = c.args.seat.now in let mid = c.put_cached.new.seat in
    let did = c.in-Did-default-Kept in let own = c.args.own in let place = c.args.handle.place in
    let hand = with_both place own.id in let next = c.put_handle in
    goes_then pool no_change (with_place place) 1 1 3 old mid next.new.seat next.result
    (later_noted pool old mid did.ensures.same c.requires.works.seat did.ensures.seat did.ensures.did
    (quiet_put own.id _)) (omega arith)
    (kept_region pool old mid did.ensures.seat did._number (Some place) own
    (works_less pool hand 3 0 1 0 old c.requires.works (omega arith) (omega arith))
    (subst (λ (x : Put).
    IsNoted pool old mid (Cache own.id.owner own.id.class) did._number (plain (was_put own.id x)))
    did.field-1-is did.ensures.did)) next.ensures.goes

-- the region came back, or another seat was in the cache: it goes to its arena
pub give_region-requires-clause-works : goal.give_region-requires-clause-works
give_region-requires-clause-works c =
    let pool = c.args.pool.now in let old = c.args.seat.now in let mid = c.put_cached.new.seat in
    let did = c.in-Did-default-Back in let own = c.args.own in let place = c.args.handle.place in
    let hand = with_both place own.id in
    let same : did.region ≡ own = subst (λ (x : Put). IfBack x (λ r. r ≡ own)) did.field-1-is did.ensures.back in
    subst (λ (r : Region). Works pool (with_both place r.id) 2 0 mid) (sym same)
    (works_after pool hand hand 3 0 1 0 2 0 old mid c.requires.works
    (back_region pool old mid did.ensures.seat did._number (Some place) own
    (works_less pool hand 3 0 1 0 old c.requires.works (omega arith) (omega arith)) did._no
    (subst (λ (x : Put).
    IsNoted pool old mid (Cache own.id.owner own.id.class) did._number (plain (was_put own.id x)))
    did.field-1-is did.ensures.did)).goes (omega arith) (omega arith))

pub returns-in-Did-default-Back : goal.returns-in-Did-default-Back
returns-in-Did-default-Back c =
    let pool = c.args.pool.now in let old = c.args.seat.now in let mid = c.put_cached.new.seat in
    let did = c.in-Did-default-Back in let own = c.args.own in let place = c.args.handle.place in
    let hand = with_both place own.id in let next = c.give_region in
    let same : did.region ≡ own = subst (λ (x : Put). IfBack x (λ r. r ≡ own)) did.field-1-is did.ensures.back in
    goes_then pool no_change hand 1 2 3 old mid next.new.seat next.result
    (later_noted pool old mid did.ensures.same c.requires.works.seat did.ensures.seat did.ensures.did
    (quiet_put own.id _)) (omega arith)
    (back_region pool old mid did.ensures.seat did._number (Some place) own
    (works_less pool hand 3 0 1 0 old c.requires.works (omega arith) (omega arith)) did._no
    (subst (λ (x : Put).
    IsNoted pool old mid (Cache own.id.owner own.id.class) did._number (plain (was_put own.id x)))
    did.field-1-is did.ensures.did)) next.ensures.goes

pub give_region-requires-in-Held-clause-works : goal.give_region-requires-in-Held-clause-works
give_region-requires-in-Held-clause-works c =
    let pool = c.args.pool.now in let old = c.args.seat.now in let mid = c.put_cached.new.seat in
    let held = c.in-Held in let own = c.args.own in let place = c.args.handle.place in
    let hand = with_both place own.id in
    subst (λ (r : Region). Works pool (with_both place r.id) 2 0 mid) (sym held.ensures.held.0)
    (works_after pool hand hand 3 0 1 0 2 0 old mid c.requires.works
    (marked pool old mid held.ensures.seat hand (Cache own.id.owner own.id.class) held._held
    (works_less pool hand 3 0 1 0 old c.requires.works (omega arith) (omega arith)) held.ensures.held.1).goes
    (omega arith) (omega arith))

pub returns-in-Held : goal.returns-in-Held
returns-in-Held c =
    let pool = c.args.pool.now in let old = c.args.seat.now in let mid = c.put_cached.new.seat in
    let held = c.in-Held in let own = c.args.own in let place = c.args.handle.place in
    let hand = with_both place own.id in let next = c.give_region-in-Held in
    goes_then pool no_change hand 1 2 3 old mid next.new.seat next.result
    (later_busy pool old mid held.ensures.same c.requires.works.seat held.ensures.seat
    (Cache own.id.owner own.id.class) held._held held.ensures.held.1) (omega arith)
    (marked pool old mid held.ensures.seat hand (Cache own.id.owner own.id.class) held._held
    (works_less pool hand 3 0 1 0 old c.requires.works (omega arith) (omega arith)) held.ensures.held.1)
    next.ensures.goes
