use Rattle.std.proofs.Common.{◌≡◌, ◌≤◌, ◌<◌, ℕ, true, false}
use Rattle.std.specs.Prelude.{slice_index_or}
use Rattle.std.specs.Mem.Slots.{slots_items, slots_filled, slots_len}
use Rattle.pool_table.proofs.closing.pass_empty.Given as goal

abbrev pub invariant-loop-k : goal.invariant-loop-k
invariant-loop-k g l = record {
  same : slots_items l.closed.slots ≡ slots_items l.fn.closed.slots;
  count : slots_len l.closed.slots ≡ slots_len l.fn.closed.slots;
  past : l.slot < l.k;
  full : (j : ℕ) → l.k ≤ j → j < l.end → slice_index_or (slots_filled l.closed.slots) j false ≡ true;
  empty : (j : ℕ) → l.slot < j → j < l.k → slice_index_or (slots_filled l.closed.slots) j false ≡ false;
  before : (j : ℕ) → j ≤ l.slot → slice_index_or (slots_filled l.closed.slots) j false
      ≡ slice_index_or (slots_filled l.fn.closed.slots) j false;
  behind : (j : ℕ) → l.end ≤ j → slice_index_or (slots_filled l.closed.slots) j false
      ≡ slice_index_or (slots_filled l.fn.closed.slots) j false;
}
