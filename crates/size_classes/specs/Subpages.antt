-- How the pages of a subpage are reckoned. No public clause cites this module.
use Rattle.std.specs.Prelude.{ℕ, ◌/◌, ◌^◌, min}
use Rattle.std.specs.Int.{w32, trailing_zeros}

-- a size without the powers of two that it shares with a page of 2 ^ shift bytes
abbrev pub reckoned_pages : ℕ → ℕ → ℕ
reckoned_pages size shift = size / 2 ^ min (trailing_zeros w32 size) shift
