use Rattle.std.proofs.Common.{◌≡◌, length, vec_capacity}
use Rattle.counted_view.specs.Rows.{IsOwing, HasClimbed}
use Rattle.counted_view.proofs.rows.climb.Given as goal

abbrev pub invariant-loop-parent : goal.invariant-loop-parent
invariant-loop-parent l =
    record {
      owing : IsOwing l.rows.items l.at;
      climbed : HasClimbed l.fn.rows.items l.rows.items l.start l.at l.ended;
      len : length l.rows.items ≡ length l.fn.rows.items;
      room : vec_capacity l.rows ≡ vec_capacity l.fn.rows;
    }

abbrev pub decreases-loop-parent : goal.decreases-loop-parent
decreases-loop-parent l = l.at
