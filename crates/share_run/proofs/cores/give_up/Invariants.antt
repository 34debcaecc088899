use Rattle.std.proofs.Common.{◌≡◌, ◌+◌, ◌≤◌, vec_len, vec_capacity}
use Rattle.std.specs.Prelude.{All}
use Rattle.shared_pool.specs.declared.pool.SharedPool.{SharedPool}
use Rattle.shared_pool.specs.Seats.{IsPoolSeat}
use Rattle.shared_composite.specs.declared.cores.Core.{Core}
use Rattle.share_run.proofs.cores.give_up.Given as goal

abbrev pub invariant-loop-core : goal.invariant-loop-core
invariant-loop-core l = record {
  all : (pool : SharedPool) → All (IsPoolSeat pool) l.initial.seats.items
      → All (λ (c : Core). IsPoolSeat pool c.seat) l.initial.cores.items
      → All (IsPoolSeat pool) l.seats.items × All (λ (c : Core). IsPoolSeat pool c.seat) l.cores.items;
  room : vec_len l.seats + vec_len l.cores ≤ vec_capacity l.seats;
  capacity : vec_capacity l.seats ≡ vec_capacity l.initial.seats;
}

abbrev pub decreases-loop-core : goal.decreases-loop-core
decreases-loop-core l = vec_len l.cores
