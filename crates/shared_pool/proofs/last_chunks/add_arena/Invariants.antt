use Rattle.std.proofs.Common.{◌≡◌, ◌+◌, ◌≤◌, [], ◌++◌, length, drop}
use Rattle.std.specs.Prelude.{vec_capacity}
use Rattle.pool_law.specs.Arenas.{chunk_ends_from}
use Rattle.pool_arena.specs.ArenaStates.{law_of}
use Rattle.shared_pool.specs.Ends.{arena_chunks}
use Rattle.shared_pool.proofs.last_chunks.add_arena.Given as goal

abbrev pub invariant-loop-chunk : goal.invariant-loop-chunk
invariant-loop-chunk l =
    record {
      items : l.ends.items ++ chunk_ends_from l.arena.geometry l.arena.number (law_of l.arena []) l.chunk
          (drop l.chunk l.arena.chunks) ≡ l.fn.ends.items ++ arena_chunks l.arena;
      most : length l.ends.items ≤ length l.fn.ends.items + l.chunk;
      capacity : vec_capacity l.fn.ends ≤ vec_capacity l.ends;
    }
