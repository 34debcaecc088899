-- What a table is opened with.
use Rattle.std.specs.Prelude.{◌≡◌, ℕ, ◌*◌, ◌<◌, ◌≤◌, List, length, Option, Some, slice_get, slice_index}
use Rattle.board_table.specs.Sound.{StandsIn, section_word, count_word, reserve}

-- the words of so many composites, of which no section was made, each counted once
pub record AreOpening (composites : ℕ) (words : List ℕ) : Type 0 where
  pub many : length words ≡ 16 * composites
  pub sections : (k : ℕ) → k < composites → slice_index words (section_word k) ≡ 0
  pub counts : (k : ℕ) → k < composites → slice_index words (count_word k) ≡ 1

-- each slot has the home value of its composite, whose seat has the turns that are kept for all of the
-- board's
pub record AreHomes {H T : Type 0}
    (stands : T → ℕ → H → Type 0) (left : H → ℕ) (origin : Option T) (turns : ℕ)
    (slots : List (Option H)) : Type 0 where
  pub each : (k : ℕ) → k < length slots →
      (x : H) × (slice_get slots k ≡ Some (Some x)) × StandsIn stands origin k x × (reserve turns ≤ left x)
