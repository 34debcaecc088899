use Rattle.std.proofs.Common.{◌≡◌, ◌+◌, ◌++◌, ◌-◌, List, length, map, take}
use Rattle.std.specs.List.{All}
use Rattle.pool_law.specs.Text.{Text}
use Rattle.pool_law.specs.declared.report.ChunkEnd.{ChunkEnd}
use Rattle.run_text.specs.Ending.{FitsChunk, chunk_text}
use Rattle.run_text.proofs.ends.chunks_of.Given as goal

abbrev pub invariant-loop-at : goal.invariant-loop-at
invariant-loop-at l =
    (front back : List Text) (xs : List ChunkEnd) → map (λ t. t.now) l.lines ≡ front ++ (map chunk_text xs ++ back)
    → length front ≡ l.from → l.from + length xs ≡ l.to → All FitsChunk xs
    → l.chunks.items ≡ take (l.at - l.from) xs
