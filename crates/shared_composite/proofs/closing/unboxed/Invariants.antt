use Rattle.std.proofs.Common.{◌≡◌, ◌≤◌, ◌+◌, ◌++◌, length, reverse}
use Rattle.std.specs.Prelude.{vec_len, vec_capacity}
use Rattle.shared_composite.specs.Homes.{cores_in}
use Rattle.shared_composite.proofs.closing.unboxed.Given as goal

abbrev pub invariant-loop-slot : goal.invariant-loop-slot
invariant-loop-slot l = record {
  order : l.cores.items ++ cores_in (reverse l.slots.items)
      ≡ l.initial.cores.items ++ cores_in (reverse l.initial.slots.items);
  room : length l.cores.items + length (cores_in (reverse l.slots.items)) ≤ vec_capacity l.cores;
}

abbrev pub decreases-loop-slot : goal.decreases-loop-slot
decreases-loop-slot l = vec_len l.slots
