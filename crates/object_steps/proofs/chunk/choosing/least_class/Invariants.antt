use Rattle.std.proofs.Common.{◌≡◌, take}
use Rattle.size_classes.specs.Pages.{least_class}
use Rattle.object_steps.proofs.chunk.choosing.least_class.Given as goal

abbrev pub invariant-loop-run : goal.invariant-loop-run
invariant-loop-run l = l.least ≡ least_class l.sizes l.pages (take l.run-index l.runs)
