use Rattle.std.proofs.Common.{◌≡◌, ◌+◌, ◌^◌, ◌≤◌, drop}
use Rattle.size_classes.specs.Pages.{run_start}
use Rattle.size_classes.specs.Pages.{total_pages}
use Rattle.object_steps.proofs.chunk.Chunk.start_of.Given as goal

abbrev pub invariant-loop-index : goal.invariant-loop-index
invariant-loop-index l = record {
  same : l.start + run_start l.left (drop l.index l.self) ≡ run_start l.page l.self;
  few : l.start + total_pages (drop l.index l.self) ≤ 2 ^ 16;
}
