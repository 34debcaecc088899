use Rattle.std.proofs.Common.{◌≡◌, ◌+◌, ◌^◌, ◌≤◌, drop}
use Rattle.pool_law.specs.Chunks.{used_pages}
use Rattle.size_classes.specs.Pages.{total_pages}
use Rattle.object_steps.proofs.chunk.Chunk.used_pages.Given as goal

abbrev pub invariant-loop-index : goal.invariant-loop-index
invariant-loop-index l = record {
  same : l.used + used_pages (drop l.index l.self) ≡ used_pages l.self;
  few : l.used + total_pages (drop l.index l.self) ≤ 2 ^ 16;
}
