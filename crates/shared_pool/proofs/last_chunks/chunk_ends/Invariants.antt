use Rattle.std.proofs.Common.{◌≡◌, ◌*◌, ◌≤◌, length}
use Rattle.std.specs.Prelude.{vec_capacity}
use Rattle.size_classes.specs.Sizes.{below}
use Rattle.shared_pool.specs.Ends.{chunks_from}
use Rattle.shared_pool.proofs.last_chunks.chunk_ends.Given as goal

abbrev pub invariant-loop-number : goal.invariant-loop-number
invariant-loop-number l =
    record {
      items : l.ends.items ≡ chunks_from l.homes (below l.number);
      most : length l.ends.items ≤ l.number * l.shape.chunks;
      capacity : l.shape.arenas * l.shape.chunks ≤ vec_capacity l.ends;
    }
