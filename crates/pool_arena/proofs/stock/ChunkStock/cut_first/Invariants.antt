use Rattle.std.proofs.Common.{◌≡◌, ℕ, ◌-◌, List, length}
use Rattle.pool_law.specs.declared.id.RegionId.{RegionId}
use Rattle.pool_law.specs.ChunkLists.{walk}
use Rattle.pool_arena.proofs.WalkLaws.{first_from}
use Rattle.pool_arena.proofs.stock.ChunkStock.cut_first.Given as goal

abbrev pub invariant-loop-chunk : goal.invariant-loop-chunk
invariant-loop-chunk l =
    record {
      same : l.self ≡ l.fn.self;
      rest : (takings : ℕ) (out : List RegionId) → first_from l.fn.self l.wanted 0 takings out
          ≡ first_from l.fn.self l.wanted l.k takings out;
    }

abbrev pub decreases-loop-chunk : goal.decreases-loop-chunk
decreases-loop-chunk l = length (walk l.self.lists) - l.k
