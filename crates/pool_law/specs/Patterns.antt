-- The notes of an allocation, of a region that is put away, and of the end of a root.
-- (PoolThreadCache, Recycler)
use Rattle.std.specs.Prelude.{ℕ, zero, suc, ◌+◌, ◌%◌, ◌/◌, nat_le, if◌then◌else◌, List, [], ◌∷◌, Option, Some, None, Result, Ok, Err}
use Rattle.size_classes.specs.Sizes.{class_of, below}
use Rattle.pool_law.specs.declared.id.RootId.{RootId}
use Rattle.pool_law.specs.declared.id.RegionId.{RegionId}
use Rattle.pool_law.specs.declared.note.Object.TheVariants.{Arena, Cache, Bin, Root}
use Rattle.pool_law.specs.declared.note.Did.{Did}
use Rattle.pool_law.specs.declared.run.Shape.{Shape}
use Rattle.pool_law.specs.declared.run.Reply.{Reply}
use Rattle.pool_law.specs.Limits.{geometry_of, has_cache, cached_classes}
use Rattle.pool_law.specs.Options.{check}
use Rattle.pool_law.specs.Dids as says
use Rattle.pool_law.specs.Readers.{Reader, ◌>>=◌, ◌>>◌, ◌or◌, give, nothing, given, unless_there, found, not_found, note, step, busy, access, growth, ending, ask, asks, asks_anew}

-- ---- A region is obtained.

-- the lane's cache gives a region, or none where it is empty or another lane is in it
abbrev pub ask_cache : ℕ → ℕ → Reader (Option RegionId)
ask_cache lane class =
    let cache = Cache lane class in
    ask
    >> (found (note cache says.hit)
    or not_found (note cache says.miss)
    or not_found (busy cache))

-- the lane's arena gives a region, or none where it is full
abbrev pub ask_arena : Shape → ℕ → ℕ → Reader (Option RegionId)
ask_arena shape lane class =
    let arena = Arena (lane % shape.arenas) in
    found (note arena (says.take class)) or not_found (note arena (says.full class))

-- a region of the class, from the cache or else from the arena; none where that is full
abbrev pub obtain : Shape → ℕ → ℕ → Reader (Option RegionId)
obtain shape lane class = do
  cached ← if has_cache class then ask_cache lane class else give None
  unless_there cached (ask_arena shape lane class)

-- ---- A root is allotted.

-- a new root, and its region
pub record New : Type 0 where
  pub root : RootId
  pub region : RegionId

-- the region with one more use
abbrev pub one_more : RegionId → RegionId
one_more region = record region { uses = region.uses + 1 }

-- a root is born with the region, or its handle goes home where there is none
abbrev pub bear : ℕ → ℕ → ℕ → Option RegionId → Reader (Result New Reply)
bear lane place size None = note (Bin lane) (says.home place) >> give (Err Reply.Full)
bear lane place size (Some region) = do
  root ← note (Root place) (says.birth place size (one_more region))
  step root says.born
  give (Ok (record { root = root; region = one_more region }))

-- a root of so many bytes, once its handle is there
abbrev pub with_handle : Shape → ℕ → ℕ → ℕ → Reader (Result New Reply)
with_handle shape lane size place = do
  class ← given (class_of (geometry_of shape) size)
  region ← obtain shape lane class
  bear lane place size region

-- a root of so many bytes, or the refusal that the notes say
abbrev pub allot : Shape → ℕ → ℕ → Reader (Result New Reply)
allot shape lane size =
    note (Bin lane) says.no_handle >> give (Err Reply.Handles)
    or note (Bin lane) says.handle >>= with_handle shape lane size

-- ---- A root ends.

-- the region goes back to its arena
abbrev pub give_back : RegionId → Reader (Unit {0})
give_back region = note (Arena region.place.arena) (says.give region)

-- the cache of the region's owner does not keep it, or another lane is in it
abbrev pub not_kept : RegionId → Reader (Unit {0})
not_kept region =
    let cache = Cache region.owner region.class in
    note cache (says.back region) or (busy cache >> nothing)

-- the region goes to its owner's cache, and to its arena where that does not keep it
abbrev pub offer : RegionId → Reader (Unit {0})
offer region =
    note (Cache region.owner region.class) (says.kept region)
    or (not_kept region >> give_back region)

-- the region goes to its owner's cache, if its class has one, or else to its arena
abbrev pub put_away : RegionId → Reader (Unit {0})
put_away region = if has_cache region.class then offer region else give_back region

-- the end of a root: its region is put away, and its handle goes home
abbrev pub end_of : Shape → RootId → Reader (Unit {0})
end_of shape root = do
  step root says.ended
  region ← ending root
  step root says.vacated
  put_away region
  note (Bin (root.place / shape.handles)) (says.home root.place)

-- one release of a root, and what it answers
abbrev pub release : Shape → RootId → Reader Reply
release shape root =
    step root says.count_kept >> give Reply.Kept
    or end_of shape root >> give Reply.Freed

-- ---- A root grows.

-- the capacity of a root once so much was asked: what is found, or what its region lets it have
abbrev pub found_room : RootId → ℕ → Reader ℕ
found_room root size = access root (says.extend size) >> give size or access root (says.room size)

-- what a growth comes to: the capacity, and the region that is left over
pub record Grown : Type 0 where
  pub capacity : ℕ
  pub spare : RegionId

-- the root leaves its region for this one, or meanwhile has so much without it
abbrev pub grown : RootId → ℕ → RegionId → Reader Grown
grown root size region =
    growth root size (one_more region) >>= (λ old. give (record { capacity = size; spare = old }))
    or found_room root size >>= (λ k. give (record { capacity = k; spare = region }))

-- a root that its region doesn't hold has so much at last; a region is put away
abbrev pub grow_with : RootId → ℕ → Option RegionId → Reader (Result ℕ Reply)
grow_with root size None = give (Err Reply.Full)
grow_with root size (Some region) = do
  g ← grown root size region
  given (check (nat_le size g.capacity))
  put_away g.spare
  give (Ok g.capacity)

-- a root has a capacity of so much at least, or the refusal that the notes say
abbrev pub regrow : Shape → ℕ → RootId → ℕ → Reader (Result ℕ Reply)
regrow shape lane root size = do
  capacity ← found_room root size
  class ← given (class_of (geometry_of shape) size)
  if nat_le size capacity
      then give (Ok capacity)
      else obtain shape lane class >>= grow_with root size

-- ---- Caches are swept, and closed.

-- so many regions leave the cache, each for its arena
abbrev pub sheds : ℕ → ℕ → ℕ → Reader (Unit {0})
sheds lane class zero = nothing
sheds lane class (suc n) = do
  region ← note (Cache lane class) says.shed
  give_back region
  sheds lane class n

-- each of these caches notes a quota of this kind, and so many regions leave it
abbrev pub drain : ℕ → (Did → Option ℕ) → List ℕ → Reader (Unit {0})
drain lane kind [] = nothing
drain lane kind (class ∷ classes) = do
  quota ← note (Cache lane class) kind
  sheds lane class quota
  drain lane kind classes

-- a sweep: each cache is trimmed
abbrev pub sweep : ℕ → Reader (Unit {0})
sweep lane = drain lane says.trim (below cached_classes)

-- the sweep that is due once so many allocations asked a cache
abbrev pub sweep_if_due : ℕ → ℕ → Reader (Unit {0})
sweep_if_due period lane = do
  n ← asks
  if nat_le period n then asks_anew >> sweep lane else nothing

-- the last notes of a lane: each cache is closed
abbrev pub closing : ℕ → Reader (Unit {0})
closing lane = drain lane says.close (below cached_classes)
