use Rattle.std.proofs.Common.{◌<◌, List, length, slice_index_or, sym, ap, subst, arith}
use Rattle.shared_pool.specs.declared.pool.SharedPool.{SharedPool}
use Rattle.shared_pool.specs.declared.seat.PoolSeat.{PoolSeat}
use Rattle.shared_pool.specs.Seats.{IsPoolSeat}
use Rattle.pool_bench.proofs.close.Goals as goal

pub abandon-requires : goal.abandon-requires
abandon-requires g c =
    let same = c.in-Err.ensures.err in
    record {
      seats = λ k d below.
          let many = ap (λ (seats : List PoolSeat). length seats) same.1 in
          let lane : k < c.args.pool.table.layout.shape.lanes = omega (arith, many, below, c.requires.many) in
          subst (λ (x : SharedPool × List PoolSeat). IsPoolSeat x.0 (slice_index_or x.1 k d))
          (λ i. (sym same.0 i, sym same.1 i)) (c.requires.each k lane d).seat;
    }
