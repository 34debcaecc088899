-- What a note says: of each kind of note what it tells beside what is known before; none of another
-- kind.
use Rattle.std.specs.Prelude.{ℕ, ◌==◌, ◌&&◌, List, length, Option, Some, None}
use Rattle.pool_law.specs.declared.id.RootId.{RootId}
use Rattle.pool_law.specs.declared.id.RegionId.{RegionId}
use Rattle.pool_law.specs.declared.id.Parcel.{Parcel}
use Rattle.pool_law.specs.declared.note.Did.{Did}
use Rattle.pool_law.specs.declared.note.Did.TheVariants.{Take, Full, Give, Hit, Miss, Kept, Back, Trim, Close, Shed, Handle, NoHandle, Home, Post, Fetch, Birth, Set, Get, Touch, Room, Extend, Grow, End}
use Rattle.pool_law.specs.declared.note.RefDid.{RefDid}
use Rattle.pool_law.specs.declared.note.RefDid.TheVariants.{Born, Retain, Ended, Vacated, Look}
use Rattle.pool_law.specs.Same.{same_root, same_region, same_parcel, same_bytes}
use Rattle.pool_law.specs.Caches.{if_so}
use Rattle.pool_law.specs.Options.{check}

-- ---- At an arena.

-- the region of a take of the class
abbrev pub take : ℕ → Did → Option RegionId
take class (Take other region) = if_so (class == other) region
take class _ = None

-- the arena has nothing of the class
abbrev pub full : ℕ → Did → Option (Unit {0})
full class (Full other) = check (class == other)
full class _ = None

-- this region comes back
abbrev pub give : RegionId → Did → Option (Unit {0})
give region (Give other) = check (same_region region other)
give region _ = None

-- ---- At a cache.

-- the region of a hit
abbrev pub hit : Did → Option RegionId
hit (Hit region) = Some region
hit _ = None

-- the cache is empty
abbrev pub miss : Did → Option (Unit {0})
miss Miss = Some tt
miss _ = None

-- this region is kept
abbrev pub kept : RegionId → Did → Option (Unit {0})
kept region (Kept other) = check (same_region region other)
kept region _ = None

-- this region is sent back
abbrev pub back : RegionId → Did → Option (Unit {0})
back region (Back other why) = check (same_region region other)
back region _ = None

-- the quota of a trim
abbrev pub trim : Did → Option ℕ
trim (Trim quota) = Some quota
trim _ = None

-- the quota of a close
abbrev pub close : Did → Option ℕ
close (Close quota) = Some quota
close _ = None

-- the region of a shed
abbrev pub shed : Did → Option RegionId
shed (Shed region) = Some region
shed _ = None

-- ---- At a bin.

-- the place of a handle
abbrev pub handle : Did → Option ℕ
handle (Handle place) = Some place
handle _ = None

-- the bin is empty
abbrev pub no_handle : Did → Option (Unit {0})
no_handle NoHandle = Some tt
no_handle _ = None

-- this place comes home
abbrev pub home : ℕ → Did → Option (Unit {0})
home place (Home other) = check (place == other)
home place _ = None

-- ---- At a mail.

-- this parcel is posted
abbrev pub post : Parcel → Did → Option (Unit {0})
post parcel (Post other) = check (same_parcel parcel other)
post parcel _ = None

-- the parcel of a fetch
abbrev pub fetch : Did → Option Parcel
fetch (Fetch parcel) = Some parcel
fetch _ = None

-- ---- At a root place.

-- the root that is born at the place, with this capacity and region
abbrev pub birth : ℕ → ℕ → RegionId → Did → Option RootId
birth place capacity region (Birth root with) =
    if_so
    ((root.place == place) && ((root.capacity == capacity) && same_region with region))
    root
birth place capacity region _ = None

-- these bytes are set at the offset
abbrev pub set : ℕ → List ℕ → Did → Option (Unit {0})
set offset bytes (Set at with) = check ((at == offset) && same_bytes with bytes)
set offset bytes _ = None

-- the bytes that are got at the offset, which are so many
abbrev pub get : ℕ → ℕ → Did → Option (List ℕ)
get offset len (Get at bytes) = if_so ((at == offset) && (length bytes == len)) bytes
get offset len _ = None

-- a touch
abbrev pub touch : Did → Option (Unit {0})
touch Touch = Some tt
touch _ = None

-- the capacity that is found where so much is asked
abbrev pub room : ℕ → Did → Option ℕ
room asked (Room other capacity) = if_so (asked == other) capacity
room asked _ = None

-- the root is extended to so much in its region
abbrev pub extend : ℕ → Did → Option (Unit {0})
extend size (Extend other) = check (size == other)
extend size _ = None

-- the root grows to so much into this region
abbrev pub grow : ℕ → RegionId → Did → Option (Unit {0})
grow size region (Grow other with) = check ((size == other) && same_region region with)
grow size region _ = None

-- this root ends
abbrev pub end : RootId → Did → Option (Unit {0})
end root (End other) = check (same_root root other)
end root _ = None

-- ---- On a reference word.

-- the word is set
abbrev pub born : RefDid → Option (Unit {0})
born Born = Some tt
born _ = None

-- a count is added
abbrev pub retain : RefDid → Option (Unit {0})
retain Retain = Some tt
retain _ = None

-- a count is taken away, and others stay
abbrev pub count_kept : RefDid → Option (Unit {0})
count_kept RefDid.Kept = Some tt
count_kept _ = None

-- the last count is taken away
abbrev pub ended : RefDid → Option (Unit {0})
ended Ended = Some tt
ended _ = None

-- the word is vacated
abbrev pub vacated : RefDid → Option (Unit {0})
vacated Vacated = Some tt
vacated _ = None

-- the count that is looked up
abbrev pub look : RefDid → Option ℕ
look (Look k) = Some k
look _ = None
