use Rattle.std.proofs.Common.{◌≡◌, ◌*◌, ◌<◌, ℕ, length}
use Rattle.std.specs.Prelude.{slice_index}
use Rattle.board_table.specs.Sound.{section_word, count_word}
use Rattle.board_table.proofs.opening.opening_words.Given as goal

abbrev pub invariant-loop-k : goal.invariant-loop-k
invariant-loop-k l = record {
  many : length l.words.items ≡ 16 * l.composites;
  sections : (k : ℕ) → k < l.composites → slice_index l.words.items (section_word k) ≡ 0;
  counts : (k : ℕ) → k < l.k → slice_index l.words.items (count_word k) ≡ 1;
}
