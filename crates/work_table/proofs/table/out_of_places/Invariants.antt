use Rattle.std.proofs.Common.{◌≡◌, ◌≤◌, ◌+◌, take, drop, map, Some, vec_len, vec_capacity}
use Rattle.work_table.specs.Places.{empties}
use Rattle.work_table.proofs.table.out_of_places.Given as goal

abbrev pub invariant-loop-i : goal.invariant-loop-i
invariant-loop-i g l = record {
  left : l.places.items ≡ drop l._i l.fn.places.items;
  count : vec_len l.places + l._i ≡ vec_len l.fn.places;
  whole : empties l.places.items ≡ 0;
  machines : map Some l.machines.items ≡ take l._i l.fn.places.items;
  machines_len : vec_len l.machines ≡ l._i;
  room : vec_len l.fn.places ≤ vec_capacity l.machines;
}
