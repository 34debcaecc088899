use Rattle.std.proofs.Common.{◌≡◌, ◌+◌, ◌^◌, ◌≤◌, drop}
use Rattle.size_classes.specs.Pages.{free_pages}
use Rattle.size_classes.specs.Pages.{total_pages}
use Rattle.object_steps.proofs.chunk.Chunk.free_pages.Given as goal

abbrev pub invariant-loop-index : goal.invariant-loop-index
invariant-loop-index l = record {
  same : l.free + free_pages (drop l.index l.self) ≡ free_pages l.self;
  few : l.free + total_pages (drop l.index l.self) ≤ 2 ^ 16;
}
