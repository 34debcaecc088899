use Rattle.std.proofs.Common.{◌≡◌, ◌≢◌, ℕ, length}
use Rattle.pool_law.specs.Arenas.{front_of}
use Rattle.pool_arena.specs.Stocks.{arena_in}
use Rattle.pool_arena.specs.Closing.{IsResting}
use Rattle.pool_arena.proofs.stock.ChunkStock.drop_front.Given as goal

abbrev pub invariant-loop-spot : goal.invariant-loop-spot
invariant-loop-spot l =
    record {
      rests : IsResting l.self;
      geometry : l.self.geometry ≡ l.fn.self.geometry;
      others : (k : ℕ) → k ≢ l.class → front_of (arena_in l.self) k ≡ front_of (arena_in l.fn.self) k;
    }

abbrev pub decreases-loop-spot : goal.decreases-loop-spot
decreases-loop-spot l = length (front_of (arena_in l.self) l.class)
