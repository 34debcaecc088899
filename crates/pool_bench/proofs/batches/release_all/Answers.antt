use Rattle.std.proofs.Common.{◌-◌, ◌*◌, vec_len, arith}
use Rattle.shared_pool.specs.SeatViews.{view_of}
use Rattle.seat_work.specs.Hands.{empty_hand}
use Rattle.seat_work.proofs.Proceeding.{works_after, goes_on}
use Rattle.pool_bench.proofs.HeldRoots.{holds_pop, last_counts}
use Rattle.pool_bench.proofs.batches.release_all.Goals as goal

pub release-requires-clause-works : goal.release-requires-clause-works
release-requires-clause-works g c =
    let all = vec_len c.args.runner.now.roots in let left = vec_len c.loop-root.runner.roots in let len =
    (c.in-Some.ensures {u = tt}).len in
    works_after c.args.pool.now empty_hand empty_hand (4 * all) 0 (4 * (all - left)) 0 4 0 c.args.runner.now.seat
    c.loop-root.runner.seat c.requires.works c.loop-root.invariant.1 (omega (arith, len)) (omega arith)

pub release-requires-clause-counts : goal.release-requires-clause-counts
release-requires-clause-counts g c =
    last_counts c.pop.new.self.items c.loop-root.runner.roots.items c.in-Some.root (c.in-Some.ensures {u = tt}).items
    (view_of c.loop-root.runner.seat) c.loop-root.invariant.2

pub loop-root-preserved : goal.loop-root-preserved
loop-root-preserved g c =
    let all = vec_len c.args.runner.now.roots in let left = vec_len c.loop-root.runner.roots in let len =
    (c.in-Some.ensures {u = tt}).len in
    let before = c.loop-root.runner.seat in let after = c.release.new.seat in let roots = c.pop.new.self in (
      omega (arith, len),
      goes_on c.args.pool.now empty_hand empty_hand (4 * (all - left)) 0 4 0 (4 * (all - vec_len roots)) 0
          c.args.runner.now.seat before after c.loop-root.invariant.1 c.release.ensures.proceeds.goes
          (omega (arith, len))
          (omega arith),
      holds_pop roots.items c.loop-root.runner.roots.items c.in-Some.root (c.in-Some.ensures {u = tt}).items
          (view_of before) (view_of after) c.release.result c.release.ensures.proceeds.changes c.loop-root.invariant.2,
    )
