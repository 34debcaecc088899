use Rattle.std.proofs.Common.{None, Some, ◌≡◌, sym, subst, arith}
use Rattle.pool_law.specs.declared.id.Region.{Region}
use Rattle.pool_law.specs.declared.note.Object.TheVariants.{Cache}
use Rattle.shared_pool.specs.declared.went.Put.{Put}
use Rattle.shared_pool.specs.CacheAnswers.{was_put, IfBack}
use Rattle.shared_pool.specs.Notes.{plain}
use Rattle.shared_pool.specs.Seats.{IsNoted}
use Rattle.seat_work.specs.Answers.{hand_with}
use Rattle.seat_work.specs.Works.{Works}
use Rattle.seat_work.proofs.Calls.{kept_region, back_region, marked}
use Rattle.seat_work.proofs.Holds.{holds_region}
use Rattle.seat_work.proofs.Later.{later_noted, later_busy, quiet_put}
use Rattle.seat_work.proofs.Proceeding.{works_after}
use Rattle.seat_tries.proofs.Goings.{works_less}
use Rattle.pool_member.specs.Pendings.{PutsAway}
use Rattle.pool_member.proofs.Pendings.{away_then, none_away}
use Rattle.pool_law.specs.Patterns.{give_back, offer, put_away}
use Rattle.pool_law.specs.Readers.{nothing as read_nothing}
use Rattle.shared_pool.specs.SeatViews.{view_of}
use Rattle.seat_work.specs.Readings.{NotesOn}
use Rattle.seat_work.proofs.Noting.{notes_from, notes_on}
use Rattle.seat_work.proofs.PartReads as parts
use Rattle.seat_work.proofs.RegionNotes.{back_noted, kept_noted, not_asked}
use Rattle.pool_member.specs.declared.pending.Pending.{Pending}
use Rattle.pool_member.specs.Pendings.{left_of}
use Rattle.pool_member.proofs.work.attempted.put_cached.Goals as goal

pub put_cached-requires-clause-region : goal.put_cached-requires-clause-region
put_cached-requires-clause-region c =
    let own = c.args.own in
    holds_region c.args.pool.now c.args.seat.now (hand_with None (Some own)) own c.requires.works.held
    c.requires.region

pub returns-in-Did-default-Kept-clause-away : goal.returns-in-Did-default-Kept-clause-away
returns-in-Did-default-Kept-clause-away c =
    let pool = c.args.pool.now in let old = c.args.seat.now in let mid = c.put_cached.new.seat in
    let did = c.in-Did-default-Kept in let own = c.args.own in let hand = hand_with None (Some own) in
    subst (PutsAway pool 2 old mid) (sym c.nothing.ensures)
    (none_away pool old mid 1 2 (omega arith)
    (kept_region pool old mid did.ensures.seat did._number None own
    (works_less pool hand 2 0 1 0 old c.requires.works (omega arith) (omega arith))
    (subst (λ (x : Put).
    IsNoted pool old mid (Cache own.id.owner own.id.class) did._number (plain (was_put own.id x)))
    did.field-1-is did.ensures.did))
    (later_noted pool old mid did.ensures.same c.requires.works.seat did.ensures.seat did.ensures.did
    (quiet_put own.id _)))

-- the region came back, or another seat was in the cache: it goes to its arena
pub give-requires-clause-works : goal.give-requires-clause-works
give-requires-clause-works c =
    let pool = c.args.pool.now in let old = c.args.seat.now in let mid = c.put_cached.new.seat in
    let did = c.in-Did-default-Back in let own = c.args.own in let hand = hand_with None (Some own) in
    let same : did.region ≡ own = subst (λ (x : Put). IfBack x (λ r. r ≡ own)) did.field-1-is did.ensures.back in
    subst (λ (r : Region). Works pool (hand_with None (Some r)) 1 0 mid) (sym same)
    (works_after pool hand hand 2 0 1 0 1 0 old mid c.requires.works
    (back_region pool old mid did.ensures.seat did._number None own
    (works_less pool hand 2 0 1 0 old c.requires.works (omega arith) (omega arith)) did._no
    (subst (λ (x : Put).
    IsNoted pool old mid (Cache own.id.owner own.id.class) did._number (plain (was_put own.id x)))
    did.field-1-is did.ensures.did)).goes (omega arith) (omega arith))

pub returns-in-Did-default-Back-clause-away : goal.returns-in-Did-default-Back-clause-away
returns-in-Did-default-Back-clause-away c =
    let pool = c.args.pool.now in let old = c.args.seat.now in let mid = c.put_cached.new.seat in
    let did = c.in-Did-default-Back in let own = c.args.own in let hand = hand_with None (Some own) in
    let next = c.give in
    away_then pool old mid next.new.seat hand 1 1 2 next.result
    (later_noted pool old mid did.ensures.same c.requires.works.seat did.ensures.seat did.ensures.did
    (quiet_put own.id _)) (omega arith)
    (back_region pool old mid did.ensures.seat did._number None own
    (works_less pool hand 2 0 1 0 old c.requires.works (omega arith) (omega arith)) did._no
    (subst (λ (x : Put).
    IsNoted pool old mid (Cache own.id.owner own.id.class) did._number (plain (was_put own.id x)))
    did.field-1-is did.ensures.did)) next.ensures.away

pub give-requires-in-Held-clause-works : goal.give-requires-in-Held-clause-works
give-requires-in-Held-clause-works c =
    let pool = c.args.pool.now in let old = c.args.seat.now in let mid = c.put_cached.new.seat in
    let held = c.in-Held in let own = c.args.own in let hand = hand_with None (Some own) in
    subst (λ (r : Region). Works pool (hand_with None (Some r)) 1 0 mid) (sym held.ensures.held.0)
    (works_after pool hand hand 2 0 1 0 1 0 old mid c.requires.works
    (marked pool old mid held.ensures.seat hand (Cache own.id.owner own.id.class) held._held
    (works_less pool hand 2 0 1 0 old c.requires.works (omega arith) (omega arith)) held.ensures.held.1).goes
    (omega arith) (omega arith))

pub returns-in-Held-clause-away : goal.returns-in-Held-clause-away
returns-in-Held-clause-away c =
    let pool = c.args.pool.now in let old = c.args.seat.now in let mid = c.put_cached.new.seat in
    let held = c.in-Held in let own = c.args.own in let hand = hand_with None (Some own) in
    let next = c.give-in-Held in
    away_then pool old mid next.new.seat hand 1 1 2 next.result
    (later_busy pool old mid held.ensures.same c.requires.works.seat held.ensures.seat
    (Cache own.id.owner own.id.class) held._held held.ensures.held.1) (omega arith)
    (marked pool old mid held.ensures.seat hand (Cache own.id.owner own.id.class) held._held
    (works_less pool hand 2 0 1 0 old c.requires.works (omega arith) (omega arith)) held.ensures.held.1)
    next.ensures.away

-- ---- What the law reads of it.

pub returns-in-Did-default-Kept-clause-reads : goal.returns-in-Did-default-Kept-clause-reads
returns-in-Did-default-Kept-clause-reads c =
    let pool = c.args.pool.now in let old = c.args.seat.now in let mid = c.put_cached.new.seat in
    let did = c.in-Did-default-Kept in let id = c.args.own.id in
    subst (λ (p : Pending). NotesOn (put_away id) (left_of p) (view_of old) (view_of mid)) (sym c.nothing.ensures)
    (notes_from (offer id) read_nothing (view_of old) (view_of mid) (put_away id)
    (parts.put_cached id c.requires.class)
    (kept_noted pool old mid id did._number
    (subst (λ (x : Put). IsNoted pool old mid (Cache id.owner id.class) did._number (plain (was_put id x)))
    did.field-1-is did.ensures.did)))

pub returns-in-Did-default-Back-clause-reads : goal.returns-in-Did-default-Back-clause-reads
returns-in-Did-default-Back-clause-reads c =
    let pool = c.args.pool.now in let old = c.args.seat.now in let mid = c.put_cached.new.seat in
    let did = c.in-Did-default-Back in let own = c.args.own in let id = own.id in let next = c.give in
    let new = view_of next.new.seat in let left = left_of next.result in
    let same : did.region ≡ own = subst (λ (x : Put). IfBack x (λ r. r ≡ own)) did.field-1-is did.ensures.back in
    notes_from (offer id) left (view_of old) new (put_away id) (parts.put_cached id c.requires.class)
    (notes_on (offer id) (give_back id) (view_of old) (view_of mid) left new
    (back_noted pool old mid id did._number did._no
    (subst (λ (x : Put). IsNoted pool old mid (Cache id.owner id.class) did._number (plain (was_put id x)))
    did.field-1-is did.ensures.did))
    (subst (λ (r : Region). NotesOn (give_back r.id) left (view_of mid) new) same next.ensures.reads))

pub returns-in-Held-clause-reads : goal.returns-in-Held-clause-reads
returns-in-Held-clause-reads c =
    let pool = c.args.pool.now in let old = c.args.seat.now in let mid = c.put_cached.new.seat in
    let held = c.in-Held in let id = c.args.own.id in let next = c.give-in-Held in
    let new = view_of next.new.seat in let left = left_of next.result in
    notes_from (offer id) left (view_of old) new (put_away id) (parts.put_cached id c.requires.class)
    (notes_on (offer id) (give_back id) (view_of old) (view_of mid) left new
    (not_asked pool old mid id held._held held.ensures.held.1)
    (subst (λ (r : Region). NotesOn (give_back r.id) left (view_of mid) new) held.ensures.held.0 next.ensures.reads))
