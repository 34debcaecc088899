use Rattle.std.proofs.Common.{◌≡◌, ◌≤◌, ◌<◌, ℕ}
use Rattle.std.specs.Prelude.{vec_capacity, vec_len, slice_index}
use Rattle.std.specs.Mem.Slots.{slots_items}
use Rattle.pool_table.specs.Words.{listed_of, word_at}
use Rattle.pool_table.proofs.closing.take_words.Given as goal

abbrev pub invariant-loop-i : goal.invariant-loop-i
invariant-loop-i g l = record {
  many : vec_len l.words ≡ l.i;
  laid : (k : ℕ) → k < l.i → slice_index l.words.items k ≡ slice_index (slots_items l.closed.words) (word_at l.shape k);
  room : listed_of l.shape ≤ vec_capacity l.words;
}
