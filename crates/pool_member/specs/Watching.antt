-- Which births of a thread are watched.
use Rattle.std.specs.Prelude.{◌≡◌, ℕ, ◌+◌, ◌-◌, ◌^◌, ◌<◌, ◌≤◌, false, min, nat_lt, if◌then◌else◌, Option, None}
use Rattle.leak_records.specs.Records.{Sampling, watch_of, with_birth}
use Rattle.pool_law.specs.declared.report.Watch.{Watch}
use Rattle.pool_law.specs.declared.run.Level.{Level}
use Rattle.pool_law.specs.Leaks.{is_sampled}

-- of the births behind so many, none up to this one is sampled
abbrev pub Skips : Level → ℕ → ℕ → ℕ → Type 0
Skips level interval births until =
    (serial : ℕ) → births < serial → serial ≤ until → is_sampled level interval serial ≡ false

-- the watch of the next birth, just where it is sampled. So many births can be counted
abbrev pub watch_next : Sampling → Option Watch
watch_next s = if nat_lt s.births (2 ^ 32 - 1) then watch_of (with_birth s) else None

-- the same behind that birth
abbrev pub with_next : Sampling → Sampling
with_next s = record s { births = min (s.births + 1) (2 ^ 32 - 1) }
