use Rattle.std.proofs.Common.{◌≤◌}
use Rattle.pool_chunk.specs.ChunkStates.{IsInUse}
use Rattle.pool_chunk.proofs.chunk.Chunk.start_of.Given as goal

abbrev pub invariant-loop-self : goal.invariant-loop-self
invariant-loop-self l =
    (h : IsInUse l.fn.self l.fn.page) → record { from : h.start ≤ l.at; within : l.at ≤ l.fn.page }

abbrev pub decreases-loop-self : goal.decreases-loop-self
decreases-loop-self l = l.at
