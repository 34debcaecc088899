-- How a cache keeps its regions.
use Rattle.std.specs.Prelude.{◌≤◌, ◌<◌, ◌^◌, length}
use Rattle.region_cache.specs.Queues.{Queue}
use Rattle.region_cache.specs.declared.cache.Cache.TheInside.{Inside}

abbrev pub queue_in : Inside → Queue
queue_in c =
    record {
      regions = c.regions.items;
      served = c.served;
      quota = c.quota;
      closed = c.closed;
      capacity = c.regions.capacity;
    }

pub record IsCache (c : Inside) : Type 0 where
  pub capacity : c.regions.capacity < 2 ^ 32
  pub within : length c.regions.items ≤ c.regions.capacity
  pub served : c.served ≤ c.regions.capacity
  pub quota : c.quota ≤ length c.regions.items
