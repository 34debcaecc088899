-- What a source gave to a block.
use Rattle.std.specs.Prelude.{◌≡◌, ℕ, ◌≤◌, Bool, true, false, List, length, Option}
use Rattle.std.specs.Io.KnownBytes.{Consumes, IsAtEnd}

module _ {S : Type 0} (left : S → Option (List ℕ)) (faults : S → ℕ) where
  -- a source gave these bytes to a place that has room for so many: it was full, or nothing is left
  pub record Gives (old new : S) (room : ℕ) (bytes : List ℕ) (last : Bool) : Type 0 where
    pub few : length bytes ≤ room
    pub full : last ≡ false → length bytes ≡ room
    pub consumes : Consumes (left old) (left new) bytes
    pub end : last ≡ true → IsAtEnd (left new)
    pub sound : faults new ≡ faults old
