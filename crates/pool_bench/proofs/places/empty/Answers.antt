use Rattle.std.proofs.Common.{arith}
use Rattle.shared_pool.specs.SeatViews.{view_of}
use Rattle.pool_bench.proofs.HeldRoots.{holds_less, place_counts}
use Rattle.pool_bench.proofs.places.empty.Goals as goal

pub release-requires-clause-counts : goal.release-requires-clause-counts
release-requires-clause-counts g c =
    let roots = c.args.runner.now.roots in let out = c.swap_remove-root in
    place_counts roots.items out.new.self.items c.args.place out.result (omega (arith, roots.ok.0)) out.ensures.value
    out.ensures.items (view_of c.args.runner.now.seat) c.requires.holds

pub returns-clause-holds : goal.returns-clause-holds
returns-clause-holds g c =
    let roots = c.args.runner.now.roots in let out = c.swap_remove-root in
    holds_less roots.items out.new.self.items c.args.place out.result (omega (arith, roots.ok.0)) out.ensures.value
    out.ensures.items (view_of c.args.runner.now.seat) (view_of c.release.new.seat) c.release.result
    c.release.ensures.proceeds.changes c.requires.holds
