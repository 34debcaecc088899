-- Bits in words of 64, numbered through all words.
use Rattle.std.specs.Prelude.{◌≡◌, ◌≢◌, ℕ, ◌*◌, ◌/◌, ◌%◌, ◌<◌, List, length, slice_index}
use Rattle.std.specs.Int.{bit_at}

-- bit i
abbrev pub bit_of : List ℕ → ℕ → ℕ
bit_of words i = bit_at (slice_index words (i / 64)) (i % 64)

-- all bits are b
abbrev pub AreAll : ℕ → List ℕ → Type 0
AreAll b words = (i : ℕ) → i < 64 * length words → bit_of words i ≡ b

-- bit i is clear, and all below it are set
pub record IsLowestClear (words : List ℕ) (i : ℕ) : Type 0 where
  pub there : i < 64 * length words
  pub clear : bit_of words i ≡ 0
  pub below : (j : ℕ) → j < i → bit_of words j ≡ 1

-- bit i is now b, and the others are as they were
pub record ChangesBit (i b : ℕ) (old new : List ℕ) : Type 0 where
  pub length : length new ≡ length old
  pub changed : bit_of new i ≡ b
  pub others : (j : ℕ) → j ≢ i → bit_of new j ≡ bit_of old j

-- bit i is set, and all below it are clear
pub record IsLowestSet (words : List ℕ) (i : ℕ) : Type 0 where
  pub there : i < 64 * length words
  pub set : bit_of words i ≡ 1
  pub below : (j : ℕ) → j < i → bit_of words j ≡ 0
