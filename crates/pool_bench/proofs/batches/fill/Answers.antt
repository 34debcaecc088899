use Rattle.std.proofs.Common.{List, ◌+◌, ◌*◌, ap, sym, subst, arith}
use Rattle.std.specs.Prelude.{vec_len}
use Rattle.pool_law.specs.declared.id.RootId.{RootId}
use Rattle.shared_pool.specs.SeatViews.{view_of}
use Rattle.seat_work.specs.Answers.{refused}
use Rattle.seat_work.specs.Changes.{Holds}
use Rattle.seat_work.specs.Hands.{empty_hand}
use Rattle.seat_work.specs.Works.{Goes}
use Rattle.seat_work.proofs.Proceeding.{goes_on, goes_none}
use Rattle.pool_bench.specs.declared.runner.Runner.{Runner}
use Rattle.pool_bench.proofs.HeldRoots.{holds_on, holds_push}
use Rattle.pool_bench.proofs.batches.fill.Goals as goal
use Rattle.pool_bench.proofs.batches.fill.Goals.{in-Ok, in-Err}

pub loop-done-init : goal.loop-done-init
loop-done-init g c =
    let seat = c.args.runner.now.seat in (
      omega arith,
      goes_none c.args.pool.now empty_hand (6 * c.args.count) 0 seat c.requires.works,
      subst (λ (xs : List RootId). Holds xs (view_of seat)) (sym c.clear.ensures.items) c.requires.works.paid,
      omega arith,
    )

pub loop-done-preserved : goal.loop-done-preserved
loop-done-preserved g c =
    let n = c.loop-done.done in let old = c.args.runner.now.seat in let mid = c.loop-done.runner.seat in
    let roots = c.loop-done.runner.roots in let now = c.allocate.new.seat in
    let goes = goes_on c.args.pool.now empty_hand empty_hand (6 * n) 0 6 0 (6 * (n + 1)) 0 old mid now
    c.loop-done.invariant.1 c.allocate.ensures.proceeds.goes (omega arith) (omega arith) in
    elim c.match-allocate.branch [
      | in-Ok w ↦
          let len = ap (λ (r : Runner). vec_len r.roots) w.runner-is in (
            omega arith,
            subst (λ (r : Runner). Goes c.args.pool.now empty_hand (6 * (n + 1)) 0 old r.seat) (sym w.runner-is) goes,
            subst (λ (r : Runner). Holds r.roots.items (view_of r.seat)) (sym w.runner-is)
                (holds_push roots.items w.push_reserved.new.self.items w.in-Ok.root w.push_reserved.ensures.items
                (view_of mid) (view_of now) w.in-Ok.ensures.proceeds.changes c.loop-done.invariant.2),
            omega (arith, len),
          )
      | in-Err w ↦
          let len = ap (λ (r : Runner). vec_len r.roots) w.runner-is in (
            omega arith,
            subst (λ (r : Runner). Goes c.args.pool.now empty_hand (6 * (n + 1)) 0 old r.seat) (sym w.runner-is) goes,
            subst (λ (r : Runner). Holds r.roots.items (view_of r.seat)) (sym w.runner-is)
                (holds_on (refused w.in-Err._no) (view_of mid) (view_of now) roots.items roots.items (λ r. omega arith)
                w.in-Err.ensures.proceeds.changes c.loop-done.invariant.2),
            omega (arith, len),
          )
    ]
