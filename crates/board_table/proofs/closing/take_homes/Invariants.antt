use Rattle.std.proofs.Common.{◌≡◌, ◌≤◌, ◌<◌, ℕ, true, false, length}
use Rattle.std.specs.Prelude.{vec_capacity, slice_index_or}
use Rattle.std.specs.Mem.Slots.{slots_items, slots_filled, slots_len}
use lib.ListN.{get_elem?}
use Rattle.board_table.proofs.closing.take_homes.Given as goal

abbrev pub invariant-loop-k : goal.invariant-loop-k
invariant-loop-k g l = record {
  many : length l.slots.items ≡ l.k;
  laid : (k : ℕ) → k < l.k → get_elem? l.slots.items k ≡ get_elem? (slots_items l.closed.slots) k;
  room : l.composites ≤ vec_capacity l.slots;
  same : slots_items l.closed.slots ≡ slots_items l.fn.closed.slots;
  count : slots_len l.closed.slots ≡ l.composites;
  full : (k : ℕ) → l.k ≤ k → k < l.composites → slice_index_or (slots_filled l.closed.slots) k false ≡ true;
  empty : (k : ℕ) → k < l.k → slice_index_or (slots_filled l.closed.slots) k false ≡ false;
}
