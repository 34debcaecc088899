use Rattle.std.proofs.Common.{◌≡◌, ◌-◌, ◌++◌}
use Rattle.std.specs.Prelude.{None, replicate}
use Rattle.pool_table.proofs.making.drop_empty.Given as goal

abbrev pub invariant-loop-dropped : goal.invariant-loop-dropped
invariant-loop-dropped g l = l.slots.items ≡ g.before ++ replicate (l.count - l._dropped) None
