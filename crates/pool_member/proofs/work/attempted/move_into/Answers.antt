use Rattle.std.proofs.Common.{None, Some, ℕ, ◌≤◌, Ok, Err, refl, sym, ap, subst, arith}
use Rattle.pool_law.specs.declared.id.Region.{Region}
use Rattle.pool_law.specs.declared.note.Object.TheVariants.{Root}
use Rattle.pool_table.specs.Counts.{HasCount}
use Rattle.pool_table.specs.declared.views.SeatView.{SeatView}
use Rattle.shared_pool.specs.Regrowing.{back_of, grown_capacity}
use Rattle.shared_pool.specs.SeatViews.{view_of}
use Rattle.seat_work.specs.Answers.{hand_with}
use Rattle.seat_work.specs.Changes.{no_change}
use Rattle.seat_work.specs.Hands.{IsRegion}
use Rattle.seat_work.specs.Works.{Works}
use Rattle.seat_work.proofs.Counting.{still_counts}
use Rattle.seat_work.proofs.Holds.{holds_region, is_region, region_stays}
use Rattle.seat_work.proofs.Knowing.{learned}
use Rattle.seat_work.proofs.Later.{later_asked}
use Rattle.seat_work.proofs.Proceeding.{works_after, works_same}
use Rattle.seat_work.proofs.Regrowing.{asks_grown, grown_enough, grown_root, told_grown, told_noted}
use Rattle.seat_tries.proofs.Goings.{works_less}
use Rattle.pool_member.specs.declared.work.attempted.AskNo.TheVariants.{Busy}
use Rattle.pool_member.specs.Growths.{AsksOn}
use Rattle.pool_member.proofs.Asking.{asks_back, busy_goes, busy_has, busy_later}
use Rattle.pool_law.specs.Patterns.{grow_with, put_away}
use Rattle.pool_law.specs.Readers.{◌>>◌, give}
use Rattle.seat_work.specs.Readings.{NotesOn}
use Rattle.seat_work.specs.Regrowths.{as_grown}
use Rattle.seat_work.proofs.GrowthNotes.{grown_noted}
use Rattle.pool_member.specs.Pendings.{left_of}
use Rattle.pool_member.proofs.Asked.{left_on}
use Rattle.pool_member.proofs.work.attempted.move_into.Goals as goal

pub grow-requires-clause-region : goal.grow-requires-clause-region
grow-requires-clause-region c =
    let own = c.args.own in
    holds_region c.args.pool.now c.args.seat.now (hand_with None (Some own)) own c.requires.works.held
    c.requires.region

pub grow-requires-clause-long : goal.grow-requires-clause-long
grow-requires-clause-long c =
    subst (λ (n : ℕ). c.args.size ≤ n) (sym c.requires.region.len) c.requires.long

pub put_back-requires-clause-works : goal.put_back-requires-clause-works
put_back-requires-clause-works c =
    let a = c.args in let pool = a.pool.now in let old = a.seat.now in let mid = c.grow.new.seat in
    let did = c.in-Did in let hand = hand_with None (Some a.own) in
    subst (λ (r : Region). Works pool (hand_with None (Some r)) 2 0 mid)
    (sym (ap (λ p. p.1) c.parts_of-capacity.ensures))
    (works_after pool hand (hand_with None (Some (back_of did.grown))) 3 0 1 0 2 0 old mid c.requires.works
    (grown_root pool old mid did.ensures.seat did._number a.root a.size a.own
    (works_less pool hand 3 0 1 0 old c.requires.works (omega arith) (omega arith)) did.grown did.ensures.answer
    did.ensures.did).goes (omega arith) (omega arith))

pub put_back-requires-clause-region : goal.put_back-requires-clause-region
put_back-requires-clause-region c =
    let pool = c.args.pool.now in let mid = c.grow.new.seat in
    subst (λ (r : Region). IsRegion pool mid r) (sym (ap (λ p. p.1) c.parts_of-capacity.ensures))
    (is_region pool mid (back_of c.in-Did.grown) c.in-Did.ensures.hands)

pub returns-in-Did-clause-asks : goal.returns-in-Did-clause-asks
returns-in-Did-clause-asks c =
    let a = c.args in let pool = a.pool.now in let old = a.seat.now in let mid = c.grow.new.seat in
    let did = c.in-Did in let hand = hand_with None (Some a.own) in let out = did.grown in let root = a.root in
    let next = c.put_back in let works = c.requires.works in let capacity = grown_capacity a.size out in
    let all = grown_root pool old mid did.ensures.seat did._number root a.size a.own
    (works_less pool hand 3 0 1 0 old works (omega arith) (omega arith)) out did.ensures.answer did.ensures.did in
    let asks = asks_grown root a.size a.own.id out in
    subst (λ (n : ℕ). AsksOn pool 3 root a.size old next.new.seat (Ok n) next.result)
    (sym (ap (λ p. p.0) c.parts_of-capacity.ensures))
    (asks_back pool root a.size (hand_with None (Some (back_of out))) 1 2 3 old mid next.new.seat (Ok capacity)
    next.result (later_asked pool old mid did.ensures.same works.seat did.ensures.seat root did.ensures.did asks)
    (omega arith) all
    (still_counts no_change (view_of old) (view_of mid) root refl all.changes c.requires.counts) (
      grown_enough a.size a.own out did.ensures.answer,
      learned pool old mid root capacity all.goes.knows did.ensures.knows,
      told_noted pool root capacity old mid did.ensures.same works.seat did.ensures.seat did._number _ did.ensures.did
          asks (told_grown root did._number (view_of old).own.number a.size a.own.id out),
    ) next.ensures.away)

-- another was at the root, and the region comes back
pub put_back-requires-in-Held-clause-works : goal.put_back-requires-in-Held-clause-works
put_back-requires-in-Held-clause-works c =
    let pool = c.args.pool.now in let old = c.args.seat.now in let mid = c.grow.new.seat in let held = c.in-Held in
    let hand = hand_with None (Some c.args.own) in
    subst (λ (r : Region). Works pool (hand_with None (Some r)) 2 0 mid) (sym held.ensures.held.0)
    (works_same pool hand 2 0 old mid held.ensures.seat (ap (λ m. m.0) held.ensures.held.1.marked)
    (works_less pool hand 3 0 2 0 old c.requires.works (omega arith) (omega arith)))

pub put_back-requires-in-Held-clause-region : goal.put_back-requires-in-Held-clause-region
put_back-requires-in-Held-clause-region c =
    let pool = c.args.pool.now in let old = c.args.seat.now in let mid = c.grow.new.seat in let held = c.in-Held in
    subst (IsRegion pool mid) (sym held.ensures.held.0)
    (region_stays pool old mid c.args.own (ap (λ m. m.0.setting) held.ensures.held.1.marked) c.requires.region)

pub returns-in-Held-clause-asks : goal.returns-in-Held-clause-asks
returns-in-Held-clause-asks c =
    let a = c.args in let pool = a.pool.now in let old = a.seat.now in let mid = c.grow.new.seat in
    let held = c.in-Held in let root = a.root in let found = held.ensures.held.1 in let works = c.requires.works in
    let hand = hand_with None (Some a.own) in let next = c.put_back-in-Held in let o = Root root.place in
    asks_back pool root a.size hand 0 2 3 old mid next.new.seat (Err Busy) next.result
    (busy_later pool root a.size old mid o held._held held.ensures.same held.ensures.seat found 3 works.seat)
    (omega arith)
    (busy_goes pool root a.size old mid o held._held held.ensures.same held.ensures.seat found 3 hand works)
    (subst (λ (v : SeatView). HasCount root v) (sym (ap (λ m. m.0) found.marked)) c.requires.counts)
    (busy_has pool root a.size old mid o held._held held.ensures.same held.ensures.seat found 3 works.seat)
    next.ensures.away

pub returns-in-Did-clause-reads : goal.returns-in-Did-clause-reads
returns-in-Did-clause-reads c =
    let a = c.args in let pool = a.pool.now in let old = a.seat.now in let mid = c.grow.new.seat in
    let did = c.in-Did in let out = did.grown in let next = c.put_back in let left = left_of next.result in
    let whole = grow_with a.root a.size (Some a.own.id) in let new = view_of next.new.seat in
    subst (λ (n : ℕ). NotesOn whole (left >> give (Ok n)) (view_of old) new)
    (sym (ap (λ p. p.0) c.parts_of-capacity.ensures))
    (left_on a.root a.size a.own.id (as_grown a.size out) next.result (view_of old) (view_of mid) new
    (grown_enough a.size a.own out did.ensures.answer)
    (grown_noted pool old mid a.root a.size did._number a.own out did.ensures.answer did.ensures.did)
    (subst (λ (r : Region). NotesOn (put_away r.id) left (view_of mid) new)
    (ap (λ p. p.1) c.parts_of-capacity.ensures) next.ensures.reads))
