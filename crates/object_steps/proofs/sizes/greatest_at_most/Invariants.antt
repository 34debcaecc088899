use Rattle.std.proofs.Common.{◌≡◌, take}
use Rattle.std.specs.Prelude.{fold, filter, nat_le, max}
use Rattle.object_steps.proofs.sizes.greatest_at_most.Given as goal

abbrev pub invariant-loop-class : goal.invariant-loop-class
invariant-loop-class l = l.greatest ≡ fold max 0 (filter (λ class. nat_le class l.pages) (take l.class-index l.classes))
