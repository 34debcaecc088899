use Rattle.std.proofs.Common.{◌≡◌, ◌≤◌, ◌+◌, ◌++◌, map, reverse}
use Rattle.std.specs.Prelude.{Some, vec_len, vec_capacity}
use Rattle.shared_composite.specs.Homes.{core_in_slot, cores_in}
use Rattle.shared_composite.proofs.opening.boxed.Given as goal

abbrev pub invariant-loop-core : goal.invariant-loop-core
invariant-loop-core l = record {
  order : l.cores.items ++ cores_in (reverse l.slots.items) ≡ l.initial.cores.items;
  places : map Some l.cores.items ++ map core_in_slot (reverse l.slots.items) ≡ map Some l.initial.cores.items;
  room : vec_len l.cores + vec_len l.slots ≤ vec_capacity l.slots;
  kept : vec_len l.initial.cores ≤ vec_capacity l.cores;
  within : vec_len l.cores ≤ vec_len l.initial.cores;
}

abbrev pub decreases-loop-core : goal.decreases-loop-core
decreases-loop-core l = vec_len l.cores
