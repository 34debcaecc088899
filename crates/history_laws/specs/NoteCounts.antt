-- How often a note moves a place, a root or a taking. Each word answers 0 or 1.
use Rattle.std.specs.Prelude.{ℕ, ◌/◌, ◌==◌, ◌&&◌, Bool, cond, Option, Some, None}
use Rattle.pool_law.specs.declared.run.Shape.{Shape}
use Rattle.pool_law.specs.declared.id.Parcel.{Parcel}
use Rattle.pool_law.specs.declared.id.ViewData.{ViewData}
use Rattle.pool_law.specs.declared.id.RootId.{RootId}
use Rattle.pool_law.specs.declared.id.RegionId.{RegionId}
use Rattle.pool_law.specs.declared.note.Did.{Did}
use Rattle.pool_law.specs.declared.note.Did.TheVariants.{Take, Give, Hit, Kept, Shed, Handle, Home, Post, Fetch, Birth, Grow, End}
use Rattle.pool_law.specs.declared.note.Noted.{Noted}
use Rattle.pool_law.specs.Same.{same_root, same_taking}

-- the lane of a root place
abbrev pub place_lane : Shape → ℕ → ℕ
place_lane s p = p / s.handles

abbrev pub one_if_so : Bool → ℕ
one_if_so test = cond test 1 0

-- the note takes the place p out of its bin
abbrev pub did_handle : ℕ → Did → ℕ
did_handle p (Handle q) = one_if_so (q == p)
did_handle p d = 0

-- it brings the place p home
abbrev pub did_home : ℕ → Did → ℕ
did_home p (Home q) = one_if_so (q == p)
did_home p d = 0

-- the root is the one of generation g at the place p
abbrev pub is_root : ℕ → ℕ → RootId → Bool
is_root p g r = (r.place == p) && (r.generation == g)

-- the parcel carries a view of the root (p, g)
abbrev pub view_weight : ℕ → ℕ → Option ViewData → ℕ
view_weight p g (Some v) = one_if_so (is_root p g v.root)
view_weight p g None = 0

abbrev pub parcel_weight : ℕ → ℕ → Parcel → ℕ
parcel_weight p g q = view_weight p g q.view

-- the note fetches a view of the root (p, g), and posts one
abbrev pub did_fetch : ℕ → ℕ → Did → ℕ
did_fetch p g (Fetch q) = parcel_weight p g q
did_fetch p g d = 0

abbrev pub did_post : ℕ → ℕ → Did → ℕ
did_post p g (Post q) = parcel_weight p g q
did_post p g d = 0

-- the parcel carries a view of this very root; the note fetches one, and posts one
abbrev pub view_of_root : RootId → Option ViewData → ℕ
view_of_root r (Some v) = one_if_so (same_root v.root r)
view_of_root r None = 0

abbrev pub did_fetch_of : RootId → Did → ℕ
did_fetch_of r (Fetch q) = view_of_root r q.view
did_fetch_of r d = 0

abbrev pub did_post_of : RootId → Did → ℕ
did_post_of r (Post q) = view_of_root r q.view
did_post_of r d = 0

-- a root is born at the place p; the root (p, g) is; it is with the capacity c
abbrev pub did_birth : ℕ → Did → ℕ
did_birth p (Birth r x) = one_if_so (r.place == p)
did_birth p d = 0

abbrev pub did_birth_of : ℕ → ℕ → Did → ℕ
did_birth_of p g (Birth r x) = one_if_so (is_root p g r)
did_birth_of p g d = 0

abbrev pub did_birth_as : ℕ → ℕ → ℕ → Did → ℕ
did_birth_as p g c (Birth r x) = one_if_so (is_root p g r && (r.capacity == c))
did_birth_as p g c d = 0

-- the root (p, g) ends
abbrev pub did_end : ℕ → ℕ → Did → ℕ
did_end p g (End r) = one_if_so (is_root p g r)
did_end p g d = 0

-- this very root ends
abbrev pub did_end_of : RootId → Did → ℕ
did_end_of r (End q) = one_if_so (same_root q r)
did_end_of r d = 0

-- a region of the taking of q weighs 1; it weighs its uses; and one with its number weighs 1
abbrev pub is_taking : RegionId → RegionId → ℕ
is_taking q r = one_if_so (same_taking q r)

abbrev pub uses_in : RegionId → RegionId → ℕ
uses_in q r = cond (same_taking q r) r.uses 0

abbrev pub has_number : ℕ → ℕ → RegionId → ℕ
has_number a t r = one_if_so ((r.place.arena == a) && (r.taking == t))

-- by a weight of regions: what a note takes out of an arena, and gives back
abbrev pub arena_out : (RegionId → ℕ) → Did → ℕ
arena_out w (Take c r) = w r
arena_out w d = 0

abbrev pub arena_in : (RegionId → ℕ) → Did → ℕ
arena_in w (Give r) = w r
arena_in w d = 0

-- what it takes out of a cache, and puts there
abbrev pub cache_out : (RegionId → ℕ) → Did → ℕ
cache_out w (Hit r) = w r
cache_out w (Shed r) = w r
cache_out w d = 0

abbrev pub cache_in : (RegionId → ℕ) → Did → ℕ
cache_in w (Kept r) = w r
cache_in w d = 0

-- what it takes out of a root place, as the region that goes with the note, and puts there: a root
-- that grows leaves one region and goes on in another
abbrev pub weight_or : (RegionId → ℕ) → Option RegionId → ℕ
weight_or w (Some r) = w r
weight_or w None = 0

abbrev pub ended_region : Did → Option RegionId → Option RegionId
ended_region (End r) region = region
ended_region (Grow c x) region = region
ended_region d region = None

abbrev pub place_out : (RegionId → ℕ) → Noted → ℕ
place_out w n = weight_or w (ended_region n.did n.region)

abbrev pub place_in : (RegionId → ℕ) → Did → ℕ
place_in w (Birth r x) = w x
place_in w (Grow c x) = w x
place_in w d = 0
