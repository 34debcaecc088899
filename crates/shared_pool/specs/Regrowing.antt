-- A root is asked for capacity, and grows: what it answers, what its place makes of it, and the notes.
use Rattle.std.specs.Prelude.{◌≡◌, ℕ, ◌-◌, ◌<◌, ◌≤◌, ⊤, nat_le, if◌then◌else◌, List, length, take, replicate, Option, Some, None}
use Rattle.ground.specs.Ground.{with_bytes}
use Rattle.pool_law.specs.declared.id.Region.{Region}
use Rattle.pool_law.specs.declared.id.RegionId.{RegionId}
use Rattle.pool_law.specs.declared.id.RootId.{RootId}
use Rattle.pool_law.specs.declared.note.Did.{Did}
use Rattle.pool_law.specs.declared.note.Noted.{Noted}
use Rattle.pool_law.specs.Roots.{laid_over}
use Rattle.shared_pool.specs.RootPlaces.{RootState, PlaceState}
use Rattle.shared_pool.specs.PlaceSteps.{used}
use Rattle.shared_pool.specs.RootNotes.{access}
use Rattle.shared_pool.specs.declared.went.Room.{Room}
use Rattle.shared_pool.specs.declared.went.Room.TheVariants.{Enough, Extended, Short}
use Rattle.shared_pool.specs.declared.went.Grown.{Grown}
use Rattle.shared_pool.specs.declared.went.Grown.TheVariants as grown

-- ---- What is noted.

-- an ask for so much capacity, by what the root answered
abbrev pub room_did : ℕ → Room → Did
room_did asked (Enough capacity) = Did.Room asked capacity
room_did asked Extended = Did.Extend asked
room_did asked (Short capacity) = Did.Room asked capacity

-- the answer fits what was asked; whether its region holds that, the note says
abbrev pub IsRoomFor : ℕ → Room → Type 0
IsRoomFor asked (Enough capacity) = asked ≤ capacity
IsRoomFor asked Extended = ⊤
IsRoomFor asked (Short capacity) = capacity < asked

-- the capacity that the root has from then on
abbrev pub room_capacity : ℕ → Room → ℕ
room_capacity asked (Enough capacity) = capacity
room_capacity asked Extended = asked
room_capacity asked (Short capacity) = capacity

abbrev pub grown_capacity : ℕ → Grown → ℕ
grown_capacity asked (grown.Enough capacity region) = capacity
grown_capacity asked (grown.Extended region) = asked
grown_capacity asked (grown.Replaced region) = asked

-- the growth of a root to so much into a region, whose uses are one more, out of another
abbrev pub growth : RootId → ℕ → RegionId → RegionId → Noted
growth root asked into left =
    record {
      did = Did.Grow asked (used into);
      lane = None;
      watch = None;
      root = Some root;
      region = Some left;
    }

-- the region that comes out
abbrev pub back_of : Grown → Region
back_of (grown.Enough capacity region) = region
back_of (grown.Extended region) = region
back_of (grown.Replaced region) = region

-- what is noted of a root that is given this region, by what came of it
abbrev pub grown_note : RootId → ℕ → RegionId → Grown → Noted
grown_note root asked into (grown.Enough capacity region) = access root (Did.Room asked capacity)
grown_note root asked into (grown.Extended region) = access root (Did.Extend asked)
grown_note root asked into (grown.Replaced region) = growth root asked into region.id

-- what was done, and the region that goes with the note, where the region has these uses then
abbrev pub grown_did : ℕ → RegionId → Grown → Did × Option RegionId
grown_did asked into (grown.Enough capacity region) = (Did.Room asked capacity, None)
grown_did asked into (grown.Extended region) = (Did.Extend asked, None)
grown_did asked into (grown.Replaced region) = (Did.Grow asked into, Some region.id)

-- a region that the root doesn't take comes back as it was given, and one that it leaves is another
abbrev pub IsGrownFor : ℕ → Region → Grown → Type 0
IsGrownFor asked given (grown.Enough capacity region) = (asked ≤ capacity) × (region ≡ given)
IsGrownFor asked given (grown.Extended region) = region ≡ given
IsGrownFor asked given (grown.Replaced region) = ⊤

-- ---- What a place makes of it. No public clause cites what follows.

-- what a root answers
abbrev pub room_in : ℕ → RootState → Room
room_in asked r =
    if nat_le asked r.capacity
    then Enough r.capacity
    else (if nat_le asked r.region.place.len then Extended else Short r.capacity)

-- bytes with zeros from one number up to another
abbrev pub zeroed : ℕ → ℕ → List ℕ → List ℕ
zeroed from to bytes = laid_over bytes from (replicate (to - from) 0)

-- the root with so much capacity in its region
abbrev pub extended : ℕ → RootState → RootState
extended asked r =
    record r {
      piece = with_bytes r.piece (zeroed r.capacity asked r.piece.bytes);
      capacity = asked;
    }

-- the root after an ask, by its answer
abbrev pub after_room : ℕ → RootState → Room → RootState
after_room asked r (Enough capacity) = r
after_room asked r Extended = extended asked r
after_room asked r (Short capacity) = r

-- a region's bytes with the first of the root's laid over, and zeros behind them up to a capacity
abbrev pub carried_over : ℕ → RootState → List ℕ → List ℕ
carried_over asked r bytes = zeroed r.capacity asked (laid_over bytes 0 (take r.capacity r.piece.bytes))

-- the root with so much capacity in another region
abbrev pub moved : ℕ → RootState → Region → RootState
moved asked r into =
    record r {
      region = used into.id;
      piece = with_bytes into.piece (carried_over asked r into.piece.bytes);
      capacity = asked;
    }

-- what comes of a root that is given a region
abbrev pub IsGrown : ℕ → RootState → Region → Grown → RootState → Type 0
IsGrown asked r given (grown.Enough capacity region) s =
    (room_in asked r ≡ Enough capacity) × (region ≡ given) × (s ≡ r)
IsGrown asked r given (grown.Extended region) s =
    (room_in asked r ≡ Extended) × (region ≡ given) × (s ≡ extended asked r)
IsGrown asked r given (grown.Replaced region) s =
    (room_in asked r ≡ Short r.capacity) × (region.id ≡ r.region) × (region.piece ≡ r.piece)
    × (s ≡ moved asked r given)

-- a root is present, whose bytes lie in its region
pub record MayRegrow (s : PlaceState) : Type 0 where
  pub root : RootState
  pub present : s.present ≡ Some root
  pub fits : root.capacity ≤ length root.piece.bytes
  pub size : length root.piece.bytes ≡ root.region.place.len

-- the root that is present is another state of it
pub record Turns (old : PlaceState) (Next : RootState → RootState → Type 0) (new : PlaceState) :
    Type 0
  where
    pub root : RootState
    pub next : RootState
    pub was : old.present ≡ Some root
    pub turned : Next root next
    pub is : new ≡ record old { present = Some next }

-- it answers so
abbrev pub Answers : ℕ → Room → RootState → RootState → Type 0
Answers asked room r s = (room ≡ room_in asked r) × (s ≡ after_room asked r room)
