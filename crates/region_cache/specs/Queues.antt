-- What a contract sees of a cache.
use Rattle.std.specs.Prelude.{◌≡◌, ℕ, Bool, false, List, [], map, Some}
use Rattle.pool_law.specs.declared.id.Region.{Region}
use Rattle.pool_law.specs.declared.note.Did.{Did}
use Rattle.pool_law.specs.Caches.{Cache, cache_step}

-- a cache with the memory of its regions, the front first
pub record Queue : Type 0 where
  pub regions : List Region
  pub served : ℕ  -- the hits since the last trim, as far as the capacity
  pub quota : ℕ  -- how many are still to be shed
  pub closed : Bool
  pub capacity : ℕ

-- an empty cache that holds as many regions
abbrev pub new_queue : ℕ → Queue
new_queue capacity =
    record { regions = []; served = 0; quota = 0; closed = false; capacity = capacity }

-- the cache by the names of its regions
abbrev pub cache_of : Queue → Cache
cache_of q =
    record {
      regions = map (λ r. r.id) q.regions;
      served = q.served;
      quota = q.quota;
      closed = q.closed;
    }

-- the note may stand, and makes the new cache of the old one
pub record Makes (old : Queue) (did : Did) (new : Queue) : Type 0 where
  pub step : cache_step old.capacity (cache_of old) did ≡ Some (cache_of new)
  pub capacity : new.capacity ≡ old.capacity
