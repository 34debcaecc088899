-- The counts of the real ends. Of their bytes nothing is told.
use Rattle.std.specs.Prelude.{ℕ}

-- a reader of the system
pub record StdReader : Type 0 where
  pub faults : ℕ

-- a writer of the system
pub record StdWriter : Type 0 where
  pub faults : ℕ
  pub empty_takes : ℕ
