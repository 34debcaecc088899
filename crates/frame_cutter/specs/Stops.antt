-- Where reading stops once a refusal is met.
use Rattle.std.specs.Prelude.{◌≡◌, ℕ, ◌*◌, ◌≤◌, List, ◌++◌, length, None}
use Rattle.frame_core.specs.Frames.{failure_of, refusal}

-- just some whole blocks of so many bytes
abbrev pub AreBlocks : ℕ → List ℕ → Type 0
AreBlocks block bytes = (count : ℕ) × (length bytes ≡ count * block)

-- no refusal is met before the last block of these bytes, which may be short
pub record StopsWithin (block : ℕ) (bytes : List ℕ) : Type 0 where
  pub before : List ℕ
  pub part : List ℕ
  pub bytes_are : bytes ≡ before ++ part
  pub blocks : AreBlocks block before
  pub few : length part ≤ block
  pub sound : refusal (failure_of before) ≡ None
