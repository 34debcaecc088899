use Rattle.std.proofs.Common.{◌≡◌, ◌≤◌, ◌<◌, ℕ, true, false}
use Rattle.std.specs.Prelude.{vec_capacity, vec_len, slice_index_or}
use Rattle.std.specs.Mem.Slots.{slots_items, slots_filled, slots_len}
use lib.ListN.{get_elem?}
use Rattle.pool_law.specs.Homes.{objects_of}
use Rattle.pool_table.specs.Slots.{slot_at, slots_of}
use Rattle.pool_table.proofs.closing.take_homes.Given as goal

abbrev pub invariant-loop-i : goal.invariant-loop-i
invariant-loop-i g l = record {
  many : vec_len l.homes ≡ l.i;
  laid : (k : ℕ) → k < l.i → get_elem? l.homes.items k ≡ get_elem? (slots_items l.closed.slots) (slot_at l.shape k);
  room : objects_of l.shape ≤ vec_capacity l.homes;
  same : slots_items l.closed.slots ≡ slots_items l.fn.closed.slots;
  count : slots_len l.closed.slots ≡ slots_of l.shape;
  full : (k : ℕ) → slot_at l.shape l.i ≤ k → k < slots_of l.shape
      → slice_index_or (slots_filled l.closed.slots) k false ≡ true;
  empty : (k : ℕ) → k < slot_at l.shape l.i → slice_index_or (slots_filled l.closed.slots) k false ≡ false;
}
