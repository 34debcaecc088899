use Rattle.std.proofs.Common.{true, refl, ◌∙◌, subst, arith}
use Rattle.std.specs.Prelude.{Option, Some, None, IfSome, ◌≡◌}
use Rattle.pool_law.specs.declared.id.Region.{Region}
use Rattle.pool_law.specs.declared.note.Object.TheVariants.{Cache}
use Rattle.shared_pool.specs.Holding.{HoldsRegion}
use Rattle.shared_pool.specs.Notes.{hit, plain}
use Rattle.shared_pool.specs.SeatLanes.{lane_of}
use Rattle.shared_pool.specs.Seats.{IsNoted}
use Rattle.seat_work.specs.Answers.{hand_with}
use Rattle.seat_work.specs.Hands.{empty_hand}
use Rattle.seat_work.proofs.Calls.{hit_region, marked, popped_region}
use Rattle.seat_work.proofs.Later.{later_busy, later_none, later_noted, quiet_hit}
use Rattle.seat_work.proofs.Proceeding.{works_after}
use Rattle.seat_tries.proofs.Goings.{works_less}
use Rattle.seat_tries.proofs.Takings.{marked_taken, noted_taken}
use Rattle.pool_member.proofs.Pendings.{away_then, none_away}
use Rattle.pool_member.proofs.Returns.{later_given, marked_given}
use Rattle.pool_member.proofs.Trims.{any_here}
use Rattle.pool_member.proofs.work.trimming.shed_one.Goals as goal

pub give-requires-clause-works : goal.give-requires-clause-works
give-requires-clause-works c =
    let pool = c.args.pool.now in let old = c.args.seat.now in let mid = c.pop_cached.new.seat in
    let did = c.in-Did-default-Some in let works = c.requires.works in
    works_after pool empty_hand (hand_with None (Some did.region)) 2 0 1 0 1 0 old mid works
    (popped_region pool old mid did.ensures.seat did._number None c.args.class (Some did.region)
    (works_less pool empty_hand 2 0 1 0 old works (omega arith) (omega arith))
    (subst (λ (o : Option Region). IsNoted pool old mid (Cache (lane_of old) c.args.class) did._number (plain (hit o)))
    did.field-1-is did.ensures.did)).goes (omega arith) (omega arith)

pub give-requires-clause-region : goal.give-requires-clause-region
give-requires-clause-region c =
    let pool = c.args.pool.now in let mid = c.pop_cached.new.seat in let did = c.in-Did-default-Some in
    let class = c.args.class in let lane = lane_of c.args.seat.now in
    (hit_region pool mid (Some did.region) lane class
    (subst (λ (o : Option Region). IfSome o (λ r.
    HoldsRegion pool mid r × (r.id.owner ≡ lane) × (r.id.class ≡ class)))
    did.field-1-is did.ensures.region)).0

-- a region goes back
pub returns-in-Did-default-Some-clause-shed : goal.returns-in-Did-default-Some-clause-shed
returns-in-Did-default-Some-clause-shed c =
    let pool = c.args.pool.now in let old = c.args.seat.now in let mid = c.pop_cached.new.seat in
    let did = c.in-Did-default-Some in let works = c.requires.works in let next = c.give in
    let later = later_noted pool old mid did.ensures.same works.seat did.ensures.seat did.ensures.did (quiet_hit _) in
    let le = later_given pool old mid later in (
      away_then pool old mid next.new.seat (hand_with None (Some did.region)) 1 1 2 next.result later (omega arith)
          (popped_region pool old mid did.ensures.seat did._number None c.args.class (Some did.region)
          (works_less pool empty_hand 2 0 1 0 old works (omega arith) (omega arith))
          (subst (λ (o : Option Region).
          IsNoted pool old mid (Cache (lane_of old) c.args.class) did._number (plain (hit o))) did.field-1-is
          did.ensures.did)) next.ensures.away,
      omega (arith, le, next.ensures.returned),
    )

-- the cache is empty
pub returns-in-Did-default-None-clause-shed : goal.returns-in-Did-default-None-clause-shed
returns-in-Did-default-None-clause-shed c =
    let pool = c.args.pool.now in let old = c.args.seat.now in let mid = c.pop_cached.new.seat in
    let did = c.in-Did-default-None in let works = c.requires.works in
    let noted = subst (λ (o : Option Region).
    IsNoted pool old mid (Cache (lane_of old) c.args.class) did._number (plain (hit o))) did.field-1-is
    did.ensures.did in
    let went = popped_region pool old mid did.ensures.seat did._number None c.args.class None
    (works_less pool empty_hand 2 0 1 0 old works (omega arith) (omega arith)) noted in (
      none_away pool old mid 1 2 (omega arith) went
          (later_noted pool old mid did.ensures.same works.seat did.ensures.seat noted refl),
      record {
        mid = old;
        next = mid;
        number = did._number;
        before = later_none pool old works.seat;
        noted = noted;
        held = went.goes.held;
        after = later_none pool mid did.ensures.seat;
      },
    )

-- another was in it
pub returns-in-Held-clause-shed : goal.returns-in-Held-clause-shed
returns-in-Held-clause-shed c =
    let pool = c.args.pool.now in let old = c.args.seat.now in let mid = c.pop_cached.new.seat in
    let held = c.in-Held in let works = c.requires.works in let o = Cache (lane_of old) c.args.class in (
      none_away pool old mid 1 2 (omega arith)
          (marked pool old mid held.ensures.seat empty_hand o held._held
          (works_less pool empty_hand 2 0 1 0 old works (omega arith) (omega arith)) held.ensures.held)
          (later_busy pool old mid held.ensures.same works.seat held.ensures.seat o held._held held.ensures.held),
      any_here pool old mid o held._held true works.seat held.ensures.seat held.ensures.held,
      marked_given pool old mid works.seat held.ensures.seat o held._held held.ensures.held,
    )

-- ---- No region is taken.

pub returns-in-Did-default-Some-clause-took : goal.returns-in-Did-default-Some-clause-took
returns-in-Did-default-Some-clause-took c =
    let old = c.args.seat.now in let mid = c.pop_cached.new.seat in let did = c.in-Did-default-Some in
    let cache = Cache (lane_of old) c.args.class in
    c.give.ensures.took
    ∙ noted_taken c.args.pool.now old mid cache did._number (plain (hit (Some did.region))) refl
    (subst (λ (o : Option Region). IsNoted c.args.pool.now old mid cache did._number (plain (hit o))) did.field-1-is
    did.ensures.did)

pub returns-in-Did-default-None-clause-took : goal.returns-in-Did-default-None-clause-took
returns-in-Did-default-None-clause-took c =
    let old = c.args.seat.now in let mid = c.pop_cached.new.seat in let did = c.in-Did-default-None in
    let cache = Cache (lane_of old) c.args.class in
    noted_taken c.args.pool.now old mid cache did._number (plain (hit None)) refl
    (subst (λ (o : Option Region). IsNoted c.args.pool.now old mid cache did._number (plain (hit o))) did.field-1-is
    did.ensures.did)

pub returns-in-Held-clause-took : goal.returns-in-Held-clause-took
returns-in-Held-clause-took c =
    let old = c.args.seat.now in
    marked_taken c.args.pool.now old c.pop_cached.new.seat (Cache (lane_of old) c.args.class) c.in-Held._held
    c.in-Held.ensures.held
