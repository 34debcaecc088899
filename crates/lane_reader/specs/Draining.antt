-- Caches that are drained, one after another.
use Rattle.std.specs.Prelude.{ℕ, Option}
use Rattle.pool_law.specs.declared.note.Did.{Did}
use Rattle.pool_law.specs.declared.note.Object.TheVariants.{Cache}
use Rattle.pool_law.specs.Dids as says
use Rattle.pool_law.specs.Readers.{Reader, ◌>>=◌, note}
use Rattle.pool_law.specs.Patterns.{give_back, sheds}
use Rattle.lane_reader.specs.declared.drains.Drain.{Drain}

-- the quota that a cache notes
abbrev pub quota_of : Drain → Did → Option ℕ
quota_of Drain.Sweep = says.trim
quota_of Drain.Close = says.close

-- one region leaves the cache, for its arena
abbrev pub shed_one : ℕ → ℕ → Reader (Unit {0})
shed_one lane class = note (Cache lane class) says.shed >>= give_back

-- the cache notes a quota of this kind, and so many regions leave it
abbrev pub drain_one : ℕ → (Did → Option ℕ) → ℕ → Reader (Unit {0})
drain_one lane kind class = note (Cache lane class) kind >>= sheds lane class
