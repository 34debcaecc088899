use Rattle.std.proofs.Common.{◌≡◌, [], replicate}
use Rattle.object_steps.proofs.arena.no_subpages.Given as goal

abbrev pub invariant-loop-class : goal.invariant-loop-class
invariant-loop-class l = l.subpages.items ≡ replicate l._class []
