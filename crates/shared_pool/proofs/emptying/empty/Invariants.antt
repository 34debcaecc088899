use Rattle.std.specs.Prelude.{◌≤◌, length}
use Rattle.shared_pool.specs.Emptying.{left_of, AreOut}
use Rattle.shared_pool.proofs.emptying.empty.Given as goal

abbrev pub invariant-loop-homes : goal.invariant-loop-homes
invariant-loop-homes l =
    record {
      many : l.arenas ≤ length l.homes.items;
      out : AreOut l.arenas l.homes.items (left_of l.homes.items);
    }

abbrev pub decreases-loop-homes : goal.decreases-loop-homes
decreases-loop-homes l = length l.homes.items
