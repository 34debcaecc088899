use Rattle.std.proofs.Common.{◌≡◌, map}
use Rattle.size_classes.specs.Sizes.{below}
use Rattle.pool_arena.specs.Held.{front_for}
use Rattle.pool_arena.proofs.stock.new_fronts.Given as goal

abbrev pub invariant-loop-class : goal.invariant-loop-class
invariant-loop-class l = l.fronts.items ≡ map (front_for l.classes l.fn.room) (below l.class)
