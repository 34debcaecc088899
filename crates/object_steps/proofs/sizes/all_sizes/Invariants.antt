use Rattle.std.proofs.Common.{◌≡◌}
use Rattle.size_classes.specs.Sizes.{first_sizes}
use Rattle.object_steps.proofs.sizes.all_sizes.Given as goal

abbrev pub invariant-loop-class : goal.invariant-loop-class
invariant-loop-class l = l.sizes.items ≡ first_sizes l.class
