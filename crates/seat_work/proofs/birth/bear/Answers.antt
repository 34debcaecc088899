use Rattle.std.proofs.Common.{◌≡◌, ℕ, Some, refl, sym, subst, arith}
use Rattle.handle_bin.specs.Bins.{HandleValue}
use Rattle.pool_law.specs.declared.id.Region.{Region}
use Rattle.pool_law.specs.declared.id.RootId.{RootId}
use Rattle.pool_law.specs.Patterns.{bear as bears}
use Rattle.pool_table.specs.Counts.{HasCount}
use Rattle.seat_work.specs.Changes.{once_more}
use Rattle.seat_work.specs.Hands.{empty_hand}
use Rattle.seat_work.specs.Works.{HasBorn, Proceeds, Works}
use Rattle.seat_work.specs.Answers.{with_both, Bears}
use Rattle.seat_work.proofs.Calls.{born_root}
use Rattle.seat_work.proofs.Holds.{holds_handle, holds_region}
use Rattle.seat_work.proofs.Later.{born_with, later_born, later_has}
use Rattle.seat_work.proofs.Proceeding.{proceeds_none}
use Rattle.shared_pool.specs.SeatLanes.{lane_of}
use Rattle.shared_pool.specs.SeatViews.{view_of}
use Rattle.seat_work.proofs.PartReads.{birth_noted}
use Rattle.seat_work.proofs.birth.bear.Goals as goal

pub try_birth-requires-clause-handle : goal.try_birth-requires-clause-handle
try_birth-requires-clause-handle c =
    holds_handle c.args.pool.now c.args.seat.now (with_both c.args.handle.place c.args.region.id) c.args.handle
    c.requires.works.held c.requires.handle

pub try_birth-requires-clause-region : goal.try_birth-requires-clause-region
try_birth-requires-clause-region c =
    holds_region c.args.pool.now c.args.seat.now (with_both c.args.handle.place c.args.region.id) c.args.region
    c.requires.works.held c.requires.region

-- the root as it is made anew
sized : (root : RootId) (capacity : ℕ) → root.capacity ≡ capacity
    → root ≡ record { place = root.place; generation = root.generation; capacity = capacity }
sized root capacity is =
    subst (λ (n : ℕ). root ≡ record { place = root.place; generation = root.generation; capacity = n }) is refl

pub returns-in-Ok-clause-root : goal.returns-in-Ok-clause-root
returns-in-Ok-clause-root c =
    let born = c.in-Ok.ensures {u = tt} in (
      refl,
      subst (λ (r : RootId). HasCount r (view_of c.try_birth.new.seat))
          (sized c.in-Ok.root c.args.capacity born.root.1) born.counts,
    )

pub returns-in-Ok-clause-born : goal.returns-in-Ok-clause-born
returns-in-Ok-clause-born c =
    let born = c.in-Ok.ensures {u = tt} in
    subst (λ (r : RootId). Proceeds c.args.pool.now empty_hand 1 0 (once_more r) c.args.seat.now c.try_birth.new.seat)
    (sized c.in-Ok.root c.args.capacity born.root.1)
    (born_root c.args.pool.now c.args.seat.now c.try_birth.new.seat born.seat c.in-Ok.root c.args.handle.place
    c.in-Ok._number c.args.region.id c.args.watch.now c.requires.works born.did born.root.0)

pub returns-in-Ok-clause-noted : goal.returns-in-Ok-clause-noted
returns-in-Ok-clause-noted c =
    let born = c.in-Ok.ensures {u = tt} in
    subst (λ (r : RootId). HasBorn c.args.pool.now r c.args.seat.now c.try_birth.new.seat)
    (sized c.in-Ok.root c.args.capacity born.root.1)
    (born_with c.args.pool.now c.args.seat.now c.try_birth.new.seat born.same c.requires.works.seat born.seat
    c.in-Ok.root c.in-Ok._number c.args.region.id c.args.watch.now _ born.did (omega arith) born.fresh born.lone)

pub returns-in-Ok-clause-later : goal.returns-in-Ok-clause-later
returns-in-Ok-clause-later c =
    let born = c.in-Ok.ensures {u = tt} in
    later_born c.args.pool.now c.args.seat.now c.try_birth.new.seat born.same c.requires.works.seat born.seat
    c.in-Ok.root c.in-Ok._number c.args.region.id c.args.watch.now _ born.did (omega arith) born.fresh

pub returns-in-Err-clause-kept : goal.returns-in-Err-clause-kept
returns-in-Err-clause-kept c =
    let pool = c.args.pool.now in let old = c.args.seat.now in let worn = c.in-Err.worn in
    let kept = c.in-Err.ensures {u = tt} in
    let works = subst (λ (h : HandleValue). Works pool (with_both h.place worn.region.id) 1 0 old) (sym kept.back.0)
    (subst (λ (r : Region). Works pool (with_both c.args.handle.place r.id) 1 0 old) (sym kept.back.1)
    c.requires.works) in
    proceeds_none pool (with_both worn.handle.place worn.region.id) 1 0 0 0 old c.try_birth.new.seat works kept.seat
    kept.back.2

pub returns-in-Err-clause-later : goal.returns-in-Err-clause-later
returns-in-Err-clause-later c =
    let kept = c.in-Err.ensures {u = tt} in
    later_has c.args.pool.now c.args.seat.now c.try_birth.new.seat kept.same c.requires.works.seat kept.seat kept.back.2

pub returns-in-Ok-clause-reads : goal.returns-in-Ok-clause-reads
returns-in-Ok-clause-reads c =
    let born = c.in-Ok.ensures {u = tt} in let id = c.args.region.id in let lane = lane_of c.args.seat.now in
    subst (λ (r : RootId). Bears (bears lane c.args.handle.place c.args.capacity (Some id)) id.class c.args.watch.now r
    (view_of c.args.seat.now) (view_of c.try_birth.new.seat))
    (sized c.in-Ok.root c.args.capacity born.root.1)
    (birth_noted c.args.pool.now c.args.seat.now c.try_birth.new.seat (lane_of c.args.seat.now) c.args.handle.place
    c.args.capacity c.args.region.id c.in-Ok.root c.in-Ok._number (view_of c.args.seat.now).moves c.args.watch.now
    born.root.0 born.root.1 born.did)
