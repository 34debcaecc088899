use Rattle.std.proofs.Common.{◌+◌, ◌-◌, ◌<◌, sym, subst, arith}
use Rattle.pool_law.specs.declared.id.RegionId.{RegionId}
use Rattle.pool_law.specs.Limits.{cached_classes}
use Rattle.seat_work.specs.Answers.{with_both}
use Rattle.seat_work.proofs.Proceeding.{goes_none, works_after}
use Rattle.lane_cases.proofs.sweeps.staying.put_often.Goals as goal

pub put-requires-clause-works : goal.put-requires-clause-works
put-requires-clause-works c =
    let at = c.loop-round in let pool = c.args.pool.now in
    let hand = with_both c.args.beside.now.place at.region.id in
    let left = 1000000 - at._round in
    works_after pool hand hand left 0 0 0 1 0 at.seat at.seat at.invariant.works
    (goes_none pool hand left 0 at.seat at.invariant.works) (omega (arith, c.loop-round-test.true)) (omega arith)

pub loop-round-preserved : goal.loop-round-preserved
loop-round-preserved c =
    let at = c.loop-round in let place = c.args.beside.now.place in
    let before = with_both place at.region.id in let after = with_both place c.in-Some.back.id in
    record {
      works =
          works_after c.args.pool.now before after (1000000 - at._round) 0 1 0 (1000000 - (at._round + 1)) 0 at.seat
          c.put.new.seat at.invariant.works c.in-Some.ensures.proceeds.goes (omega (arith, c.loop-round-test.true))
          (omega arith);
      within = omega (arith, c.loop-round-test.true);
      region = c.in-Some.ensures.region;
      class =
          subst (λ (q : RegionId). q.class < cached_classes) (sym c.in-Some.ensures.same) at.invariant.class;
    }
