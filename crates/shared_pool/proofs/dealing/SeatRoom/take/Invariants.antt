use Rattle.std.proofs.Common.{◌≡◌, length}
use Rattle.std.specs.Prelude.{All}
use Rattle.shared_pool.specs.Dealing.{IsEmptyFor}
use Rattle.shared_pool.proofs.dealing.SeatRoom.take.Given as goal

abbrev pub invariant-loop-lane : goal.invariant-loop-lane
invariant-loop-lane l =
    record { many : length l.fetches.items ≡ l._lane; empty : All (IsEmptyFor l.lanes) l.fetches.items }
