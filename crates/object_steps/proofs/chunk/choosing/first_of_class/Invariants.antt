use Rattle.std.proofs.Common.{◌≡◌, drop}
use Rattle.std.specs.Prelude.{◌==◌, ◌&&◌, nat_le, find}
use Rattle.size_classes.specs.Sizes.{page_class_under}
use Rattle.object_steps.proofs.chunk.choosing.first_of_class.Given as goal

abbrev pub invariant-loop-run : goal.invariant-loop-run
invariant-loop-run l =
    find (λ run. nat_le l.pages run.1 && (page_class_under l.sizes run.1 == l.least)) (drop l.run-index l.runs)
    ≡ find (λ run. nat_le l.pages run.1 && (page_class_under l.sizes run.1 == l.least)) l.runs
