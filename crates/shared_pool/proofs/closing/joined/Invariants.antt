use Rattle.std.proofs.Common.{◌≡◌, ◌++◌}
use Rattle.std.specs.Prelude.{All, reverse}
use Rattle.pool_table.specs.Seats.{view_of, IsSeatOf, IsOutside}
use Rattle.pool_table.specs.Views.{parts_of}
use Rattle.shared_pool.specs.Joining.{IsSettled}
use Rattle.shared_pool.specs.Seated.{parts_in}
use Rattle.shared_pool.proofs.JoinedParts.{IsReady}
use Rattle.shared_pool.proofs.closing.joined.Given as goal

abbrev pub invariant-loop-seat : goal.invariant-loop-seat
invariant-loop-seat l =
    record {
      own : IsSeatOf l.table l.whole;
      outside : IsOutside l.whole;
      settled : IsSettled l.table l.whole;
      ready : All (IsReady l.table) l.seats.items;
      parts : parts_of (view_of l.whole) ++ parts_in (reverse l.seats.items) ≡ parts_in l.fn.seats.items;
    }

abbrev pub decreases-loop-seat : goal.decreases-loop-seat
decreases-loop-seat l = goal.left-loop-seat l
