-- The moves that a release leaves are no more than those of its seat.
use Rattle.std.proofs.Common.{◌≡◌, ℕ, ◌+◌, ◌^◌, ◌<◌, ◌≤◌, Bool, true, false, refl, arith}
use Rattle.std.specs.Prelude.{if◌then◌else◌, nat_lt}
use Rattle.shared_pool.specs.declared.pool.SharedPool.{SharedPool}
use Rattle.shared_pool.specs.declared.seat.PoolSeat.{PoolSeat}
use Rattle.shared_pool.specs.SeatViews.{view_of}
use Rattle.pool_member.specs.declared.member.Member.{Member}
use Rattle.pool_member.specs.Threads.{IsThread, moves_after}

one_more : (b : Bool) (n : ℕ) → (if b then n + 1 else n) ≤ n + 1
one_more true n = omega arith
one_more false n = omega arith

pub moves_left : (pool : SharedPool) (m : Member) (new : PoolSeat) → IsThread pool m → (last : Bool) (moves : ℕ)
    → (view_of m.seat).moves ≤ (view_of new).moves + 0
    → (last ≡ false → (view_of m.seat).moves < (view_of new).moves) → moves ≡ moves_after last m.account.moves
    → moves ≤ (view_of new).moves
moves_left pool m new is true moves least more after = let a = is.works.moves_left in omega (arith, a, least, after)
moves_left pool m new is false moves least more after =
    let a = is.works.moves_left in let b = more refl in
    let c = one_more (nat_lt m.account.moves (2 ^ 30)) m.account.moves in omega (arith, a, b, c, after)
