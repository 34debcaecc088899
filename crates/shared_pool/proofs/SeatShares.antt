-- A seat that shares moves or accepts them stays a seat of the pool.
use Rattle.std.proofs.Common.{ℕ, sym, ap, subst, refl}
use Rattle.pool_table.specs.declared.views.SeatView.{SeatView}
use Rattle.pool_table.specs.declared.table.PoolSeat.{PoolSeat as TableSeat}
use Rattle.pool_table.specs.Counts.{CountsOne}
use Rattle.pool_table.specs.Seats.{view_of, HasView, SameSeat}
use Rattle.shared_pool.specs.declared.home.Home.{Home}
use Rattle.shared_pool.specs.declared.pool.SharedPool.{SharedPool}
use Rattle.shared_pool.specs.declared.seat.PoolSeat.{PoolSeat}
use Rattle.shared_pool.specs.Seats.{IsPoolSeat}
use Rattle.shared_pool.proofs.SeatEnds.{seat_spent}

-- the view with another number of moves
abbrev moved : SeatView → ℕ → SeatView
moved v n = record v { moves = n }

counts_same : (v : SeatView) (n : ℕ) → CountsOne v → CountsOne (moved v n)
counts_same v n counts = record { one = counts.one; ended = counts.ended }

-- all that is asked of a seat of the pool but its moves
pub still_seat : (pool : SharedPool) (old : PoolSeat) (last : TableSeat Home _) (n : ℕ) → IsPoolSeat pool old
    → SameSeat old.seat last → HasView last (moved (view_of old.seat) n) → IsPoolSeat pool (record old { seat = last })
still_seat pool old last n s same has =
    let v = view_of old.seat in
    seat_spent pool old (record old { seat = last }) n v.turns s same refl refl has
    (subst CountsOne (sym (ap (λ m. m.0) has)) (counts_same v n s.counts))
