-- What a reading makes of how many allocations asked a cache.
use Rattle.std.specs.Prelude.{ℕ, ◌+◌}

-- no cache is asked
abbrev pub none_asked : ℕ → ℕ
none_asked asked = asked

-- one is
abbrev pub one_asked : ℕ → ℕ
one_asked asked = asked + 1
