use Rattle.std.proofs.Common.{◌≡◌, ◌<◌, ℕ, true, []}
use Rattle.size_classes.specs.Sizes.{is_small}
use Rattle.pool_law.specs.Arenas.{front_of}
use Rattle.pool_arena.specs.Stocks.{arena_in}
use Rattle.pool_arena.specs.Closing.{IsResting}
use Rattle.pool_arena.proofs.stock.ChunkStock.drop_idle.Given as goal

abbrev pub invariant-loop-class : goal.invariant-loop-class
invariant-loop-class l =
    record {
      rests : IsResting l.self;
      geometry : l.self.geometry ≡ l.fn.self.geometry;
      none : (k : ℕ) → k < l.class → is_small l.self.geometry k ≡ true → front_of (arena_in l.self) k ≡ [];
    }
