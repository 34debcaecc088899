-- Caches and bins.
use Rattle.std.specs.Prelude.{ℕ, ◌+◌, ◌-◌, ◌*◌, ◌/◌, Bool, true, false, ◌==◌, ◌&&◌, not, nat_lt, nat_le, min, if◌then◌else◌, List, [], ◌∷◌, ◌++◌, length, map, Option, Some, None}
use Rattle.std.specs.List.{list_any}
use Rattle.size_classes.specs.Sizes.{below}
use Rattle.pool_law.specs.declared.id.RegionId.{RegionId}
use Rattle.pool_law.specs.declared.note.CacheNo.{CacheNo}
use Rattle.pool_law.specs.declared.note.Did.{Did}
use Rattle.pool_law.specs.declared.note.Did.TheVariants.{Hit, Miss, Kept, Back, Trim, Close, Shed, Handle, NoHandle, Home}
use Rattle.pool_law.specs.Same.{same_region}
use Rattle.pool_law.specs.Limits.{cache_capacity}

-- a cache of regions, first in, first out
pub record Cache : Type 0 where
  pub regions : List RegionId
  pub served : ℕ  -- the hits since the last trim, as far as the capacity
  pub quota : ℕ  -- how many are still to be shed
  pub closed : Bool

-- a cache at first
abbrev pub new_cache : Cache
new_cache = record { regions = []; served = 0; quota = 0; closed = false }

-- a list without its front, where that passes the test
abbrev pub front_taken : {X : Type 0} → (X → Bool) → List X → Option (List X)
front_taken test [] = None
front_taken test (x ∷ xs) = if test x then Some xs else None

-- a value, where a test holds
abbrev pub if_so : {X : Type 0} → Bool → X → Option X
if_so test x = if test then Some x else None

-- nothing is in a list
abbrev pub is_empty : {X : Type 0} → List X → Bool
is_empty [] = true
is_empty (x ∷ xs) = false

-- a cache once its front was hit
abbrev pub after_hit : ℕ → Cache → Option (List RegionId) → Option Cache
after_hit capacity c None = None
after_hit capacity c (Some rest) =
    Some (record c { regions = rest; served = min (c.served + 1) capacity })

-- a cache once its front was shed
abbrev pub after_shed : Cache → Option (List RegionId) → Option Cache
after_shed c None = None
after_shed c (Some rest) = Some (record c { regions = rest; quota = c.quota - 1 })

-- the answer of a cache that may not keep a region
abbrev pub refusal_is : Cache → ℕ → CacheNo → Bool
refusal_is c capacity CacheNo.Closed = c.closed
refusal_is c capacity CacheNo.Full = not c.closed && nat_le capacity (length c.regions)

-- the quota of a trim
abbrev pub trim_quota : Cache → ℕ → ℕ
trim_quota c capacity = min (length c.regions) (capacity - c.served)

-- what a note makes of a cache of this capacity; none where it may not stand
abbrev pub cache_step : ℕ → Cache → Did → Option Cache
cache_step capacity c (Hit region) =
    if c.quota == 0
    then after_hit capacity c (front_taken (λ front. same_region region front) c.regions)
    else None
cache_step capacity c Miss = if_so ((c.quota == 0) && is_empty c.regions) c
cache_step capacity c (Kept region) =
    if_so (not c.closed && nat_lt (length c.regions) capacity)
    (record c { regions = c.regions ++ region ∷ [] })
cache_step capacity c (Back region why) = if_so (refusal_is c capacity why) c
cache_step capacity c (Trim quota) =
    if_so ((c.quota == 0) && (quota == trim_quota c capacity))
    (record c { quota = quota; served = 0 })
cache_step capacity c (Close quota) =
    if_so ((c.quota == 0) && (not c.closed && (quota == length c.regions)))
    (record c { quota = quota; closed = true })
cache_step capacity c (Shed region) =
    if c.quota == 0
    then None
    else after_shed c (front_taken (λ front. same_region region front) c.regions)
cache_step capacity c _ = None

-- whether a region that is put is of this lane and class
abbrev pub is_own : ℕ → ℕ → Did → Bool
is_own lane class (Kept region) = (region.owner == lane) && (region.class == class)
is_own lane class (Back region why) = (region.owner == lane) && (region.class == class)
is_own lane class _ = true

-- what a note makes of the cache of a lane and class
abbrev pub lane_cache_step : ℕ → ℕ → Cache → Did → Option Cache
lane_cache_step lane class c did =
    if is_own lane class did then cache_step (cache_capacity class) c did else None

-- the places of a lane, in ascending order
abbrev pub new_bin : ℕ → ℕ → List ℕ
new_bin lane handles = map (λ k. lane * handles + k) (below handles)

-- a place is among these
abbrev pub has_place : ℕ → List ℕ → Bool
has_place p places = list_any (λ q. q == p) places

-- what a note makes of the bin of a lane
abbrev pub bin_step : ℕ → ℕ → List ℕ → Did → Option (List ℕ)
bin_step lane handles places (Handle p) = front_taken (λ q. q == p) places
bin_step lane handles places NoHandle = if_so (is_empty places) places
bin_step lane handles places (Home p) =
    if_so ((p / handles == lane) && not (has_place p places)) (places ++ p ∷ [])
bin_step lane handles places _ = None
