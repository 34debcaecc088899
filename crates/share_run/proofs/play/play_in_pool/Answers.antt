use Rattle.std.proofs.Common.{sym, ap, ◌∙◌, arith, length}
use Rattle.pool_law.specs.Limits.{geometry_of}
use Rattle.pool_table.specs.declared.views.Layout.{Layout}
use Rattle.share_run.proofs.PlayLaws.{no_seats, opened_fresh, cores_seats}
use Rattle.share_run.proofs.play.play_in_pool.Goals as goal

pub make_cores-requires-clause-sizes : goal.make_cores-requires-clause-sizes
make_cores-requires-clause-sizes g c =
    let pool = c.in_ok-pool.pool in
    c.in_ok-sizes.ensures
    ∙ sym (ap (λ (l : Layout). geometry_of l.shape) (pool.same_layout ∙ c.in_ok-pool.ensures.layout))

pub make_cores-requires-clause-fresh : goal.make_cores-requires-clause-fresh
make_cores-requires-clause-fresh g c =
    let opened = c.in_ok-pool.ensures.seats in
    opened_fresh c.in_ok-pool.pool (length c.args.composites.now) opened.0 c.in_ok-pool.seats.items opened.1

pub make_cores-requires-clause-many : goal.make_cores-requires-clause-many
make_cores-requires-clause-many g c =
    let a = c.in_ok-pool.seats.ok.0 in let b = c.in_ok-pool.ensures.seats.1.many in omega (arith, a, b)

pub abandon-requires : goal.abandon-requires
abandon-requires g c =
    let pool = c.in_ok-pool.pool in let all_cores = c.in-Ok.ensures.ok in
    record {
      seats = c.give_up.ensures.all pool (no_seats pool _ all_cores.1)
          (cores_seats pool c.args.composites.now c.in-Ok.cores.items c.in-Err-board_of.cores.items all_cores.0
          c.in-Err-board_of.ensures.err);
    }
