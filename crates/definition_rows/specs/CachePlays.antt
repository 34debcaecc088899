-- Plays on caches: regions that come and go.
use Rattle.std.specs.Prelude.{ℕ, zero, suc, ◌*◌, ◌-◌, false, List, ◌∷◌, Option}
use Rattle.pool_law.specs.declared.id.RegionId.{RegionId}
use Rattle.pool_law.specs.declared.note.Did.{Did}
use Rattle.pool_law.specs.Caches.{Cache, new_cache, cache_step}
use Rattle.pool_law.specs.Histories.{after}
use Rattle.definition_rows.specs.Notes.{place, region}

-- the taking of the least class with this number, once used
abbrev pub small : ℕ → RegionId
small taking = region (place (16 * (taking - 1)) 16) 0 taking 1

-- the taking of the first normal class with this number, once used
abbrev pub normal : ℕ → RegionId
normal taking = region (place (32768 * (taking - 1)) 32768) 39 taking 1

-- so many of them are kept, from a number on, and then comes the rest
abbrev pub kept_then : (ℕ → RegionId) → ℕ → ℕ → List Did → List Did
kept_then kind taking zero rest = rest
kept_then kind taking (suc n) rest =
    Did.Kept (kind taking) ∷ kept_then kind (suc taking) n rest

-- a new cache of this capacity: so many small ones are kept, and then comes the rest
abbrev pub cache_of : ℕ → ℕ → List Did → Option Cache
cache_of capacity n rest = after (cache_step capacity) new_cache (kept_then small 1 n rest)

-- a cache that was not closed
abbrev pub holding : List RegionId → ℕ → ℕ → Cache
holding regions served quota =
    record { regions = regions; served = served; quota = quota; closed = false }
