use Rattle.std.proofs.Common.{◌≡◌, ◌++◌, drop}
use Rattle.pool_law.specs.Text.{chunk_lines}
use Rattle.run_report.proofs.writer.Writer.chunk_lines.Given as goal

abbrev pub invariant-loop-chunk : goal.invariant-loop-chunk
invariant-loop-chunk l =
    l.initial.self ++ chunk_lines l.chunks ≡ l.self ++ chunk_lines (drop l.chunk-index l.chunks)
