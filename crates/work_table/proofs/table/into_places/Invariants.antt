use Rattle.std.proofs.Common.{◌≡◌, ◌≤◌, ◌+◌, take, drop, map, Some, vec_len, vec_capacity}
use Rattle.work_table.proofs.table.into_places.Given as goal

abbrev pub invariant-loop-i : goal.invariant-loop-i
invariant-loop-i g l = record {
  left : l.machines.items ≡ drop l._i l.fn.machines.items;
  count : vec_len l.machines + l._i ≡ vec_len l.fn.machines;
  room : vec_capacity l.machines ≡ vec_capacity l.fn.machines;
  places : l.places.items ≡ map Some (take l._i l.fn.machines.items);
  places_len : vec_len l.places ≡ l._i;
  places_room : vec_len l.fn.machines ≤ vec_capacity l.places;
}
