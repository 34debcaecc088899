use Rattle.std.proofs.Common.{◌≡◌, ◌+◌, ◌++◌, ◌^◌, ◌≤◌, drop}
use Rattle.size_classes.specs.Pages.{free_runs, total_pages}
use Rattle.object_steps.proofs.chunk.Chunk.free_runs.Given as goal

abbrev pub invariant-loop-index : goal.invariant-loop-index
invariant-loop-index l = record {
  same : l.runs.items ++ free_runs l.page (drop l.index l.self) ≡ free_runs 0 l.self;
  few : l.page + total_pages (drop l.index l.self) ≤ 2 ^ 16;
}
