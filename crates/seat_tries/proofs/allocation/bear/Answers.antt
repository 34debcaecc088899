use Rattle.std.proofs.Common.{sym, ap, subst, arith}
use Rattle.handle_bin.specs.Bins.{HandleValue}
use Rattle.pool_law.specs.declared.id.Region.{Region}
use Rattle.seat_work.specs.Answers.{with_both}
use Rattle.seat_work.specs.Changes.{no_change, once_more}
use Rattle.seat_work.specs.Hands.{IsHandle, IsRegion}
use Rattle.seat_work.specs.Works.{Works}
use Rattle.seat_work.proofs.Calls.{born_root}
use Rattle.seat_work.proofs.Holds.{holds_handle, holds_region, region_stays}
use Rattle.seat_work.proofs.Later.{born_with, later_born, later_has, later_none, later_on}
use Rattle.seat_work.proofs.Proceeding.{proceeds_none, works_same}
use Rattle.seat_tries.proofs.Goings.{goes_then, leaves_none, works_less}
use Rattle.shared_pool.specs.SeatLanes.{lane_of}
use Rattle.shared_pool.specs.SeatViews.{view_of}
use Rattle.seat_work.proofs.PartReads.{birth_noted}
use Rattle.seat_tries.proofs.allocation.bear.Goals as goal

pub try_birth-requires-clause-handle : goal.try_birth-requires-clause-handle
try_birth-requires-clause-handle c =
    holds_handle c.args.pool.now c.args.seat.now (with_both c.args.own.place c.args.piece.id) c.args.own
    c.requires.works.held c.requires.handle

pub try_birth-requires-clause-region : goal.try_birth-requires-clause-region
try_birth-requires-clause-region c =
    holds_region c.args.pool.now c.args.seat.now (with_both c.args.own.place c.args.piece.id) c.args.piece
    c.requires.works.held c.requires.region

pub returns-in-Ok-clause-goes : goal.returns-in-Ok-clause-goes
returns-in-Ok-clause-goes c =
    let pool = c.args.pool.now in let old = c.args.seat.now in let new = c.try_birth.new.seat in
    let born = c.in-Ok.ensures {u = tt} in let root = c.in-Ok.root in let number = c.in-Ok._number in
    let works = c.requires.works in let hand = with_both c.args.own.place c.args.piece.id in
    leaves_none pool (once_more root) 1 3 old new (omega arith)
    (born_root pool old new born.seat root c.args.own.place number c.args.piece.id c.args.watch
    (works_less pool hand 3 0 1 0 old works (omega arith) (omega arith)) born.did born.root.0)
    (later_born pool old new born.same works.seat born.seat root number c.args.piece.id c.args.watch _ born.did
    (omega arith) born.fresh)

pub returns-in-Ok-clause-born : goal.returns-in-Ok-clause-born
returns-in-Ok-clause-born c =
    let born = c.in-Ok.ensures {u = tt} in
    born_with c.args.pool.now c.args.seat.now c.try_birth.new.seat born.same c.requires.works.seat born.seat
    c.in-Ok.root c.in-Ok._number c.args.piece.id c.args.watch _ born.did (omega arith) born.fresh born.lone

pub put_away-requires-clause-works : goal.put_away-requires-clause-works
put_away-requires-clause-works c =
    let pool = c.args.pool.now in let old = c.args.seat.now in let mid = c.try_birth.new.seat in
    let worn = c.in-Err.worn in let kept = c.in-Err.ensures {u = tt} in
    let works = subst (λ (h : HandleValue). Works pool (with_both h.place worn.region.id) 3 0 old) (sym kept.back.0)
    (subst (λ (r : Region). Works pool (with_both c.args.own.place r.id) 3 0 old) (sym kept.back.1)
    c.requires.works) in
    works_same pool (with_both worn.handle.place worn.region.id) 3 0 old mid kept.seat (ap (λ m. m.0) kept.back.2) works

pub put_away-requires-clause-handle : goal.put_away-requires-clause-handle
put_away-requires-clause-handle c =
    let kept = c.in-Err.ensures {u = tt} in
    subst (λ (h : HandleValue). IsHandle c.args.pool.now h) (sym kept.back.0) c.requires.handle

pub put_away-requires-clause-region : goal.put_away-requires-clause-region
put_away-requires-clause-region c =
    let pool = c.args.pool.now in let mid = c.try_birth.new.seat in let kept = c.in-Err.ensures {u = tt} in
    subst (λ (r : Region). IsRegion pool mid r) (sym kept.back.1)
    (region_stays pool c.args.seat.now mid c.args.piece (ap (λ m. m.0.setting) kept.back.2) c.requires.region)

pub returns-in-Err-clause-goes : goal.returns-in-Err-clause-goes
returns-in-Err-clause-goes c =
    let pool = c.args.pool.now in let old = c.args.seat.now in let mid = c.try_birth.new.seat in
    let worn = c.in-Err.worn in let kept = c.in-Err.ensures {u = tt} in
    let hand = with_both worn.handle.place worn.region.id in
    let works = subst (λ (h : HandleValue). Works pool (with_both h.place worn.region.id) 3 0 old) (sym kept.back.0)
    (subst (λ (r : Region). Works pool (with_both c.args.own.place r.id) 3 0 old) (sym kept.back.1)
    c.requires.works) in
    goes_then pool no_change hand 0 3 3 old mid c.put_away.new.seat c.put_away.result
    (later_has pool old mid kept.same c.requires.works.seat kept.seat kept.back.2) (omega arith)
    (proceeds_none pool hand 3 0 0 0 old mid works kept.seat kept.back.2) c.put_away.ensures

pub returns-in-Err-clause-cause : goal.returns-in-Err-clause-cause
returns-in-Err-clause-cause c =
    let pool = c.args.pool.now in let old = c.args.seat.now in let mid = c.try_birth.new.seat in
    let kept = c.in-Err.ensures {u = tt} in
    record {
      mid = old;
      before = later_none pool old c.requires.works.seat;
      region = c.args.piece.id;
      held = c.requires.works.held;
      found = kept.worn;
      after =
          later_on pool old mid c.put_away.new.seat
          (later_has pool old mid kept.same c.requires.works.seat kept.seat kept.back.2) c.put_away.ensures.later;
    }

pub returns-in-Ok-clause-allots : goal.returns-in-Ok-clause-allots
returns-in-Ok-clause-allots c =
    let born = c.in-Ok.ensures {u = tt} in let old = c.args.seat.now in
    birth_noted c.args.pool.now old c.try_birth.new.seat (lane_of old) c.args.own.place c.args.size c.args.piece.id
    c.in-Ok.root c.in-Ok._number (view_of old).moves c.args.watch born.root.0 born.root.1 born.did
