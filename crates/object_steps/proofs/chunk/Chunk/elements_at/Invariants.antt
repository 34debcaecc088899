use Rattle.std.proofs.Common.{◌≡◌, drop}
use Rattle.size_classes.specs.Pages.{run_at}
use Rattle.object_steps.proofs.chunk.Chunk.elements_at.Given as goal

abbrev pub invariant-loop-index : goal.invariant-loop-index
invariant-loop-index l = run_at l.left (drop l.index l.self) ≡ run_at l.page l.self
