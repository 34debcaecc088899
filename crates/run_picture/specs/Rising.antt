-- Numbers that rise.
use Rattle.std.specs.Prelude.{ℕ, suc, ◌<◌, List, length, slice_index}

-- each number is less than the next
abbrev pub Rise : List ℕ → Type 0
Rise xs = (k : ℕ) → suc k < length xs → slice_index xs k < slice_index xs (suc k)
