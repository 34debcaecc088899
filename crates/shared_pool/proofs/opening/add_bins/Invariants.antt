use Rattle.shared_pool.specs.Opening.{IsFirstBin, Adds}
use Rattle.shared_pool.proofs.opening.add_bins.Given as goal

abbrev pub invariant-loop-lane : goal.invariant-loop-lane
invariant-loop-lane l = Adds (IsFirstBin l.shape.handles) l.lane l.fn.homes.items l.homes.items
