use Rattle.std.proofs.Common.{◌≡◌, ◌+◌, ◌*◌, ◌≤◌, length}
use Rattle.std.specs.Prelude.{All, vec_capacity}
use Rattle.size_classes.specs.Sizes.{below}
use Rattle.shared_pool.specs.Ends.{told_from}
use Rattle.shared_pool.specs.Rooms.{IsSpare}
use Rattle.shared_pool.proofs.live_roots.live_roots.Given as goal

abbrev pub invariant-loop-place : goal.invariant-loop-place
invariant-loop-place l =
    record {
      same : l.homes ≡ l.fn.homes;
      items : l.live.items ≡ told_from l.shape l.fn.homes l.words (below l.place);
      spare : All IsSpare l.spare.items;
      many : length l.spare.items + l.place ≡ l.shape.lanes * l.shape.handles;
      most : length l.live.items ≤ l.place;
      capacity : l.shape.lanes * l.shape.handles ≤ vec_capacity l.live;
    }
