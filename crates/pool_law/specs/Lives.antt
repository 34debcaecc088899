-- What follows of a legal run: the life of each region.
use Rattle.std.specs.Prelude.{◌≡◌, ◌⊎◌, ℕ, ◌<◌, List, [], ◌∷◌, ◌++◌, map, IsTrue, Option, Some, None, slice_get}
use Rattle.pool_law.specs.declared.id.RootId.{RootId}
use Rattle.pool_law.specs.declared.id.RegionId.{RegionId}
use Rattle.pool_law.specs.declared.note.Object.{Object}
use Rattle.pool_law.specs.declared.note.Did.{Did}
use Rattle.pool_law.specs.declared.note.Did.TheVariants.{Take, Full, Give, Hit, Miss, Kept, Back, Trim, Close, Shed, Handle, NoHandle, Home, Post, Fetch, Birth, Set, Get, Touch, Room, Extend, Grow, End}
use Rattle.pool_law.specs.declared.note.Note.{Note}
use Rattle.pool_law.specs.Same.{same_taking}
use Rattle.pool_law.specs.Roots.{Present}
use Rattle.pool_law.specs.Logs.{Logs, of_lane, has_history, present_before}
use Rattle.pool_law.specs.Patterns.{one_more}

-- a note stands in a lane's log at this place
abbrev pub StandsAt : Logs → ℕ → ℕ → Note → Type 0
StandsAt logs lane at note = slice_get (of_lane logs lane) at ≡ Some note

-- something is done to an object, in this lane's log at this place, with this number
pub record Done (logs : Logs) (object : Object) (did : Did) : Type 0 where
  pub lane : ℕ
  pub at : ℕ
  pub number : ℕ
  pub stands : StandsAt logs lane at (Note.At object number did)

-- the cache of the region's owner and class
abbrev pub cache_of : RegionId → Object
cache_of region = Object.Cache region.owner region.class

-- the arena of the region
abbrev pub arena_of : RegionId → Object
arena_of region = Object.Arena region.place.arena

-- the region with so many uses
abbrev pub with_uses : RegionId → ℕ → RegionId
with_uses region uses = record region { uses = uses }

-- one of these
abbrev pub IsAmong : {X : Type 0} → X → List X → Type 0
IsAmong x [] = ⊥
IsAmong x (y ∷ ys) = (x ≡ y) ⊎ IsAmong x ys

-- ---- What moves a region.

-- what happens to a region
pub data Move : Type 0 where
  Takes : (class : ℕ) (region : RegionId) → Move  -- its arena gives it out
  Gives : (region : RegionId) → Move  -- its arena gets it back
  Keeps : (region : RegionId) → Move  -- its cache gets it
  Hits : (region : RegionId) → Move  -- its cache gives it out
  Sheds : (region : RegionId) → Move  -- its cache sheds it
  Begins : (root : RootId) (region : RegionId) → Move  -- a root begins to use it
  Leaves : (root : RootId) (region : RegionId) → Move  -- a root uses it no more

-- the region
abbrev pub region_of : Move → RegionId
region_of (Takes class region) = region
region_of (Gives region) = region
region_of (Keeps region) = region
region_of (Hits region) = region
region_of (Sheds region) = region
region_of (Begins root region) = region
region_of (Leaves root region) = region

-- the root that is present leaves its region
abbrev pub leaves : Option Present → List Move
leaves None = []
leaves (Some p) = Leaves p.root p.region ∷ []

-- and goes on in another
abbrev pub grows_into : Option Present → RegionId → List Move
grows_into None region = []
grows_into (Some p) region = Begins p.root region ∷ []

-- what a note moves, by what is present at its place as it comes: a root that is born begins a use of
-- a region, one that ends leaves its region, and one that grows does both
abbrev pub moves_by : Option Present → Did → List Move
moves_by present (Take class region) = Takes class region ∷ []
moves_by present (Full class) = []
moves_by present (Give region) = Gives region ∷ []
moves_by present (Hit region) = Hits region ∷ []
moves_by present Miss = []
moves_by present (Kept region) = Keeps region ∷ []
moves_by present (Back region why) = []
moves_by present (Trim quota) = []
moves_by present (Close quota) = []
moves_by present (Shed region) = Sheds region ∷ []
moves_by present (Handle place) = []
moves_by present NoHandle = []
moves_by present (Home place) = []
moves_by present (Post parcel) = []
moves_by present (Fetch parcel) = []
moves_by present (Birth root region) = Begins root region ∷ []
moves_by present (Set offset bytes) = []
moves_by present (Get offset bytes) = []
moves_by present Touch = []
moves_by present (Room asked capacity) = []
moves_by present (Extend size) = []
moves_by present (Grow capacity region) = leaves present ++ grows_into present region
moves_by present (End root) = leaves present

-- what is present at an object as the note with this number comes
abbrev pub present_at : Logs → Object → ℕ → Option Present
present_at logs (Object.Root place) number = present_before logs place number
present_at logs (Object.Arena number') number = None
present_at logs (Object.Cache lane class) number = None
present_at logs (Object.Bin lane) number = None
present_at logs (Object.Mail from to) number = None

-- a note at the root's place moves a region: in this lane's log at this place, with this number
pub record MovedBy (logs : Logs) (root : RootId) (move : Move) : Type 0 where
  pub lane : ℕ
  pub at : ℕ
  pub number : ℕ
  pub did : Did
  pub stands : StandsAt logs lane at (Note.At (Object.Root root.place) number did)
  pub moves : IsAmong move (moves_by (present_before logs root.place number) did)

-- a root uses a region, which names the taking and counts its uses: it is born with it, or grows
-- into it
abbrev pub IsUse : Logs → RootId → RegionId → Type 0
IsUse logs root region = MovedBy logs root (Begins root region)

-- the use ends: the root ends in the region, or grows out of it
abbrev pub UseEnds : Logs → RootId → RegionId → Type 0
UseEnds logs root region = MovedBy logs root (Leaves root region)

-- the root grows out of the region
pub record GrowsOut (logs : Logs) (root : RootId) (region : RegionId) : Type 0 where
  pub lane : ℕ
  pub at : ℕ
  pub number : ℕ
  pub capacity : ℕ
  pub next : RegionId
  pub stands : StandsAt logs lane at
      (Note.At (Object.Root root.place) number (Grow capacity next))
  pub moves : IsAmong (Leaves root region) (leaves (present_before logs root.place number))

-- ---- The life of a taking.

-- something was done to an object: by this lane, at this place of its log, with this number
pub record Event : Type 0 where
  pub object : Object
  pub did : Did
  pub lane : ℕ
  pub at : ℕ
  pub number : ℕ

-- an event stands in the logs
abbrev pub Stands : Logs → Event → Type 0
Stands logs e = StandsAt logs e.lane e.at (Note.At e.object e.number e.did)

-- of two events in one log the second stands later
abbrev pub InOneLog : Event → Event → Type 0
InOneLog e f = (e.lane ≡ f.lane) × (e.at < f.at)

-- of two events in one object's history the second has a higher number
abbrev pub AtOneObject : Event → Event → Type 0
AtOneObject e f =
    (e.object ≡ f.object) × ((e.number < f.number) × IsTrue (has_history e.object))

-- an event, and what it does to a region: a growth does two things, each to a region of its own
pub record Happening : Type 0 where
  pub event : Event
  pub move : Move

-- the event stands in the logs and does this
pub record Happens (logs : Logs) (t : Happening) : Type 0 where
  pub stands : Stands logs t.event
  pub moves : IsAmong t.move
      (moves_by (present_at logs t.event.object t.event.number) t.event.did)

-- where a region is
pub data Where : Type 0 where
  Got : Where  -- with a lane that got it from its arena or from a cache
  Used : (root : RootId) → Where  -- with a root
  Freed : Where  -- with the lane whose note ended its use
  Cached : Where  -- in a cache
  Dropped : Where  -- with the lane that closed its cache

-- all that happens from then on to a region that is there, in order: a root begins to use one that was
-- got, and it has one use more; or it goes back unused. The use lasts, or ends. One that is not used
-- goes back to the arena, and no more, or into a cache; there it is hit, and so got, or is shed and
-- given. So a use follows the Take or the use before by way of one cache or many times of it
abbrev pub LivesOn : Where → RegionId → List Move → Type 0
LivesOn Got r (Begins root x ∷ ms) = (x ≡ one_more r) × LivesOn (Used root) x ms
LivesOn Got r (Gives x ∷ []) = x ≡ r
LivesOn Got r (Keeps x ∷ ms) = (x ≡ r) × LivesOn Cached r ms
LivesOn (Used root) r [] = Unit {0}
LivesOn (Used root) r (Leaves q x ∷ ms) = (q ≡ root) × ((x ≡ r) × LivesOn Freed r ms)
LivesOn Freed r (Gives x ∷ []) = x ≡ r
LivesOn Freed r (Keeps x ∷ ms) = (x ≡ r) × LivesOn Cached r ms
LivesOn Cached r (Hits x ∷ ms) = (x ≡ r) × LivesOn Got r ms
LivesOn Cached r (Sheds x ∷ ms) = (x ≡ r) × LivesOn Dropped r ms
LivesOn Dropped r (Gives x ∷ []) = x ≡ r
LivesOn _ r _ = ⊥

-- one event of a region follows another: at the same place or cache where the region lies there,
-- else in the same log
abbrev pub Follows : Move → Event → Event → Type 0
Follows (Takes class region) e f = InOneLog e f
Follows (Gives region) e f = InOneLog e f
Follows (Keeps region) e f = AtOneObject e f
Follows (Hits region) e f = InOneLog e f
Follows (Sheds region) e f = InOneLog e f
Follows (Begins root region) e f = AtOneObject e f
Follows (Leaves root region) e f = InOneLog e f

-- what happens to a region is done at the region's arena, at its owner's cache of its class, or at
-- the place of its root
abbrev pub IsDoneAt : Object → Move → Type 0
IsDoneAt object (Takes class region) = object ≡ arena_of region
IsDoneAt object (Gives region) = object ≡ arena_of region
IsDoneAt object (Keeps region) = object ≡ cache_of region
IsDoneAt object (Hits region) = object ≡ cache_of region
IsDoneAt object (Sheds region) = object ≡ cache_of region
IsDoneAt object (Begins root region) = object ≡ Object.Root root.place
IsDoneAt object (Leaves root region) = object ≡ Object.Root root.place

-- these stand in the logs, each after the one before it
abbrev pub InOrder : Logs → Happening → List Happening → Type 0
InOrder logs t [] = Happens logs t
InOrder logs t (u ∷ us) =
    Happens logs t × (Follows t.move t.event u.event × InOrder logs u us)

abbrev pub moves_of : List Happening → List Move
moves_of ts = map (λ t. t.move) ts

-- the life of a taking: its Take, and all that happens to it after that, in order, each where it
-- belongs
pub record Life (logs : Logs) (taking : RegionId) : Type 0 where
  pub take : Happening
  pub later : List Happening
  pub taken : take.move ≡ Takes taking.class taking
  pub lives : LivesOn Got taking (moves_of later)
  pub order : InOrder logs take later
  pub places : (t : Happening) → IsAmong t (take ∷ later) → IsDoneAt t.event.object t.move
  pub all : (t : Happening) → Happens logs t → IsTrue (same_taking taking (region_of t.move)) →
      IsAmong t (take ∷ later)

-- whatever happens to a region belongs to the life of its taking, which begins with no uses
abbrev pub RegionsLive : Logs → Type 0
RegionsLive logs = (t : Happening) → Happens logs t → Life logs (with_uses (region_of t.move) 0)
