use Rattle.std.proofs.Common.{◌≡◌, None, Some, option_map, arith, sym, subst}
use Rattle.pool_law.specs.declared.id.Region.{Region}
use Rattle.pool_law.specs.declared.note.Object.TheVariants.{Cache}
use Rattle.pool_law.specs.Patterns.{give_back, offer, put_away}
use Rattle.pool_law.specs.Readers.{give}
use Rattle.shared_pool.specs.declared.pool.SharedPool.{SharedPool}
use Rattle.shared_pool.specs.declared.seat.PoolSeat.{PoolSeat}
use Rattle.shared_pool.specs.declared.went.Put.{Put}
use Rattle.shared_pool.specs.CacheAnswers.{was_put, IfBack}
use Rattle.shared_pool.specs.Notes.{plain}
use Rattle.shared_pool.specs.SeatViews.{view_of}
use Rattle.shared_pool.specs.Seats.{IsNoted}
use Rattle.seat_work.specs.Answers.{hand_with}
use Rattle.seat_work.specs.Changes.{no_change}
use Rattle.seat_work.specs.Hands.{Hand}
use Rattle.seat_work.specs.Readings.{NotesOn}
use Rattle.seat_work.specs.Works.{Proceeds, Works}
use Rattle.seat_work.proofs.Calls.{kept_region, back_region, marked}
use Rattle.seat_work.proofs.Holds.{holds_region}
use Rattle.seat_work.proofs.Later.{later_noted, later_busy, later_on, quiet_put}
use Rattle.seat_work.proofs.Noting.{notes_from, notes_on}
use Rattle.seat_work.proofs.PartReads.{put_cached, put_uncached}
use Rattle.seat_work.proofs.Proceeding.{proceeds_more, proceeds_on, works_after}
use Rattle.seat_work.proofs.RegionNotes.{back_noted, kept_noted, not_asked}
use Rattle.seat_work.proofs.regions.put_back.Goals as goal

-- with one turn less
less : (pool : SharedPool) (hand : Hand) (s : PoolSeat) → Works pool hand 2 0 s → Works pool hand 1 0 s
less pool hand s works = record {
  seat = works.seat;
  held = works.held;
  paid = works.paid;
  turns_left = (let x = works.turns_left in omega (arith, x));
  moves_left = works.moves_left;
}

pub returns-then-region-ge-CACHED_CLASSES-clause-reads : goal.returns-then-region-ge-CACHED_CLASSES-clause-reads
returns-then-region-ge-CACHED_CLASSES-clause-reads g c =
    let id = c.args.region.id in let last = c.give_region in
    notes_from (give_back id) (give tt) (view_of c.args.seat.now) (view_of last.new.seat) (put_away id)
    (put_uncached id (omega arith)) last.ensures.reads

pub put_cached-requires-clause-region : goal.put_cached-requires-clause-region
put_cached-requires-clause-region g c =
    let region = c.args.region in
    holds_region c.args.pool.now c.args.seat.now
    (hand_with (option_map (λ h. h.now.place) c.args.beside) (Some region)) region
    c.requires.works.held c.requires.region

pub returns-in-Did-default-Kept-clause-proceeds : goal.returns-in-Did-default-Kept-clause-proceeds
returns-in-Did-default-Kept-clause-proceeds g c =
    let pool = c.args.pool.now in let old = c.args.seat.now in let new = c.put_cached.new.seat in
    let did = c.in-Did-default-Kept in let region = c.args.region in
    let place = option_map (λ h. h.now.place) c.args.beside in
    proceeds_more pool no_change (hand_with place None) 1 0 2 0 old new
    (kept_region pool old new did.ensures.seat did._number place region
    (less pool (hand_with place (Some region)) old c.requires.works)
    (subst (λ (x : Put).
    IsNoted pool old new (Cache region.id.owner region.id.class) did._number (plain (was_put region.id x)))
    did.field-1-is did.ensures.did)) (omega arith) (omega arith)

pub returns-in-Did-default-Kept-clause-reads : goal.returns-in-Did-default-Kept-clause-reads
returns-in-Did-default-Kept-clause-reads g c =
    let pool = c.args.pool.now in let old = c.args.seat.now in let new = c.put_cached.new.seat in
    let did = c.in-Did-default-Kept in let id = c.args.region.id in
    notes_from (offer id) (give tt) (view_of old) (view_of new) (put_away id) (put_cached id (omega arith))
    (kept_noted pool old new id did._number
    (subst (λ (x : Put). IsNoted pool old new (Cache id.owner id.class) did._number (plain (was_put id x)))
    did.field-1-is did.ensures.did))

-- ---- The region came back.

pub give_region-requires-in-Did-default-Back-clause-works : goal.give_region-requires-in-Did-default-Back-clause-works
give_region-requires-in-Did-default-Back-clause-works g c =
    let pool = c.args.pool.now in let old = c.args.seat.now in let new = c.put_cached.new.seat in
    let did = c.in-Did-default-Back in let region = c.args.region in
    let place = option_map (λ h. h.now.place) c.args.beside in let hand = hand_with place (Some region) in
    let same : did.region ≡ region = subst (λ (x : Put). IfBack x (λ r. r ≡ region)) did.field-1-is
    did.ensures.back in
    subst (λ (r : Region). Works pool (hand_with place (Some r)) 1 0 new) (sym same)
    (works_after pool hand hand 2 0 1 0 1 0 old new c.requires.works
    (back_region pool old new did.ensures.seat did._number place region (less pool hand old c.requires.works) did._no
    (subst (λ (x : Put).
    IsNoted pool old new (Cache region.id.owner region.id.class) did._number (plain (was_put region.id x)))
    did.field-1-is did.ensures.did)).goes (omega arith) (omega arith))

pub returns-in-Did-default-Back-clause-proceeds : goal.returns-in-Did-default-Back-clause-proceeds
returns-in-Did-default-Back-clause-proceeds g c =
    let pool = c.args.pool.now in let old = c.args.seat.now in let new = c.put_cached.new.seat in
    let did = c.in-Did-default-Back in let region = c.args.region in let last = c.give_region-in-Did-default-Back in
    let place = option_map (λ h. h.now.place) c.args.beside in let hand = hand_with place (Some region) in
    let same : did.region ≡ region = subst (λ (x : Put). IfBack x (λ r. r ≡ region)) did.field-1-is
    did.ensures.back in
    proceeds_on pool no_change (hand_with place (Some did.region)) (hand_with place None) 1 0 1 0 2 0
    old new last.new.seat
    (subst (λ (r : Region). Proceeds pool (hand_with place (Some r)) 1 0 no_change old new) (sym same)
    (back_region pool old new did.ensures.seat did._number place region (less pool hand old c.requires.works) did._no
    (subst (λ (x : Put).
    IsNoted pool old new (Cache region.id.owner region.id.class) did._number (plain (was_put region.id x)))
    did.field-1-is did.ensures.did))) last.ensures.proceeds (omega arith) (omega arith)

pub returns-in-Did-default-Back-clause-later : goal.returns-in-Did-default-Back-clause-later
returns-in-Did-default-Back-clause-later g c =
    let pool = c.args.pool.now in let old = c.args.seat.now in let new = c.put_cached.new.seat in
    let did = c.in-Did-default-Back in let last = c.give_region-in-Did-default-Back in
    later_on pool old new last.new.seat
    (later_noted pool old new did.ensures.same c.requires.works.seat did.ensures.seat did.ensures.did
    (quiet_put c.args.region.id _)) last.ensures.later

pub returns-in-Did-default-Back-clause-reads : goal.returns-in-Did-default-Back-clause-reads
returns-in-Did-default-Back-clause-reads g c =
    let pool = c.args.pool.now in let old = c.args.seat.now in let new = c.put_cached.new.seat in
    let did = c.in-Did-default-Back in let region = c.args.region in let id = region.id in
    let last = c.give_region-in-Did-default-Back in
    let same : did.region ≡ region = subst (λ (x : Put). IfBack x (λ r. r ≡ region)) did.field-1-is
    did.ensures.back in
    notes_from (offer id) (give tt) (view_of old) (view_of last.new.seat) (put_away id) (put_cached id (omega arith))
    (notes_on (offer id) (give_back did.region.id) (view_of old) (view_of new) (give tt) (view_of last.new.seat)
    (subst (λ (r : Region). NotesOn (offer id) (give_back r.id) (view_of old) (view_of new)) (sym same)
    (back_noted pool old new id did._number did._no
    (subst (λ (x : Put). IsNoted pool old new (Cache id.owner id.class) did._number (plain (was_put id x)))
    did.field-1-is did.ensures.did))) last.ensures.reads)

-- ---- Another seat was in the cache.

pub give_region-requires-in-Held-clause-works : goal.give_region-requires-in-Held-clause-works
give_region-requires-in-Held-clause-works g c =
    let pool = c.args.pool.now in let old = c.args.seat.now in let new = c.put_cached.new.seat in
    let held = c.in-Held in let region = c.args.region in
    let place = option_map (λ h. h.now.place) c.args.beside in let hand = hand_with place (Some region) in
    subst (λ (r : Region). Works pool (hand_with place (Some r)) 1 0 new) (sym held.ensures.held.0)
    (works_after pool hand hand 2 0 1 0 1 0 old new c.requires.works
    (marked pool old new held.ensures.seat hand (Cache region.id.owner region.id.class) held._held
    (less pool hand old c.requires.works) held.ensures.held.1).goes (omega arith) (omega arith))

pub returns-in-Held-clause-proceeds : goal.returns-in-Held-clause-proceeds
returns-in-Held-clause-proceeds g c =
    let pool = c.args.pool.now in let old = c.args.seat.now in let new = c.put_cached.new.seat in
    let held = c.in-Held in let region = c.args.region in let last = c.give_region-in-Held in
    let place = option_map (λ h. h.now.place) c.args.beside in let hand = hand_with place (Some region) in
    proceeds_on pool no_change (hand_with place (Some held.region)) (hand_with place None) 1 0 1 0 2 0
    old new last.new.seat
    (subst (λ (r : Region). Proceeds pool (hand_with place (Some r)) 1 0 no_change old new) (sym held.ensures.held.0)
    (marked pool old new held.ensures.seat hand (Cache region.id.owner region.id.class) held._held
    (less pool hand old c.requires.works) held.ensures.held.1)) last.ensures.proceeds (omega arith) (omega arith)

pub returns-in-Held-clause-later : goal.returns-in-Held-clause-later
returns-in-Held-clause-later g c =
    let pool = c.args.pool.now in let old = c.args.seat.now in let new = c.put_cached.new.seat in
    let held = c.in-Held in let id = c.args.region.id in let last = c.give_region-in-Held in
    later_on pool old new last.new.seat
    (later_busy pool old new held.ensures.same c.requires.works.seat held.ensures.seat (Cache id.owner id.class)
    held._held held.ensures.held.1) last.ensures.later

pub returns-in-Held-clause-reads : goal.returns-in-Held-clause-reads
returns-in-Held-clause-reads g c =
    let pool = c.args.pool.now in let old = c.args.seat.now in let new = c.put_cached.new.seat in
    let held = c.in-Held in let id = c.args.region.id in let last = c.give_region-in-Held in
    notes_from (offer id) (give tt) (view_of old) (view_of last.new.seat) (put_away id) (put_cached id (omega arith))
    (notes_on (offer id) (give_back held.region.id) (view_of old) (view_of new) (give tt) (view_of last.new.seat)
    (subst (λ (r : Region). NotesOn (offer id) (give_back r.id) (view_of old) (view_of new)) (sym held.ensures.held.0)
    (not_asked pool old new id held._held held.ensures.held.1)) last.ensures.reads)
