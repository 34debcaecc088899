-- What the line of a note tells of it: 0 stands for a number that the line leaves out. A run that its text
-- determines has such notes.
use Rattle.std.specs.Prelude.{◌≡◌, ℕ, ◌^◌, ◌<◌, Option, Some, None}
use Rattle.hex.specs.Hex.{IsBytes}
use Rattle.pool_law.specs.declared.id.Place.{Place}
use Rattle.pool_law.specs.declared.id.RootId.{RootId}
use Rattle.pool_law.specs.declared.id.RegionId.{RegionId}
use Rattle.pool_law.specs.declared.id.ViewData.{ViewData}
use Rattle.pool_law.specs.declared.note.Object.{Object}
use Rattle.pool_law.specs.declared.note.Did.{Did}
use Rattle.pool_law.specs.declared.note.RefDid.{RefDid}
use Rattle.pool_law.specs.declared.note.Held.{Held}
use Rattle.pool_law.specs.declared.note.Note.{Note}

-- the kinds of objects
pub data Kind : Type 0 where
  OfArena : Kind
  OfCache : Kind
  OfBin : Kind
  OfMail : Kind
  OfRoot : Kind

-- the kind of an object
abbrev pub kind_of : Object → Kind
kind_of (Object.Arena number) = Kind.OfArena
kind_of (Object.Cache lane class) = Kind.OfCache
kind_of (Object.Bin lane) = Kind.OfBin
kind_of (Object.Mail from to) = Kind.OfMail
kind_of (Object.Root place) = Kind.OfRoot

-- the kind of the objects that this is done to
abbrev pub kind_done : Did → Kind
kind_done (Did.Take class region) = Kind.OfArena
kind_done (Did.Full class) = Kind.OfArena
kind_done (Did.Give region) = Kind.OfArena
kind_done (Did.Hit region) = Kind.OfCache
kind_done Did.Miss = Kind.OfCache
kind_done (Did.Kept region) = Kind.OfCache
kind_done (Did.Back region why) = Kind.OfCache
kind_done (Did.Trim quota) = Kind.OfCache
kind_done (Did.Close quota) = Kind.OfCache
kind_done (Did.Shed region) = Kind.OfCache
kind_done (Did.Handle place) = Kind.OfBin
kind_done Did.NoHandle = Kind.OfBin
kind_done (Did.Home place) = Kind.OfBin
kind_done (Did.Post parcel) = Kind.OfMail
kind_done (Did.Fetch parcel) = Kind.OfMail
kind_done (Did.Birth root region) = Kind.OfRoot
kind_done (Did.Set offset bytes) = Kind.OfRoot
kind_done (Did.Get offset bytes) = Kind.OfRoot
kind_done Did.Touch = Kind.OfRoot
kind_done (Did.Room asked capacity) = Kind.OfRoot
kind_done (Did.Extend size) = Kind.OfRoot
kind_done (Did.Grow capacity region) = Kind.OfRoot
kind_done (Did.End root) = Kind.OfRoot

-- the numbers of an object are of their type
abbrev pub FitsObject : Object → Type 0
FitsObject (Object.Arena number) = number < 2 ^ 32
FitsObject (Object.Cache lane class) = (lane < 2 ^ 32) × (class < 2 ^ 32)
FitsObject (Object.Bin lane) = lane < 2 ^ 32
FitsObject (Object.Mail from to) = (from < 2 ^ 32) × (to < 2 ^ 32)
FitsObject (Object.Root place) = place < 2 ^ 32

-- the number of a step on a count is of its type
abbrev pub FitsRef : RefDid → Type 0
FitsRef RefDid.Born = Unit {0}
FitsRef RefDid.Retain = Unit {0}
FitsRef RefDid.Kept = Unit {0}
FitsRef RefDid.Ended = Unit {0}
FitsRef RefDid.Vacated = Unit {0}
FitsRef (RefDid.Look found) = found < 2 ^ 32

-- the numbers that are told of a place are of their types
abbrev pub FitsPlace : Place → Type 0
FitsPlace p = (p.arena < 2 ^ 32) × (p.chunk < 2 ^ 32) × (p.offset < 2 ^ 32)

-- those that are told of a region's spot
abbrev pub FitsRegion : RegionId → Type 0
FitsRegion r = (r.place.chunk < 2 ^ 32) × (r.place.offset < 2 ^ 32) × (r.taking < 2 ^ 64)

-- those that are told of a use that begins
abbrev pub FitsUse : RegionId → ℕ → Type 0
FitsUse r capacity = FitsPlace r.place × (r.taking < 2 ^ 64) × (r.uses < 2 ^ 64) × (capacity < 2 ^ 32)

-- those that are told of a view
abbrev pub FitsView : ViewData → Type 0
FitsView v =
    (v.root.place < 2 ^ 32)
    × (v.root.generation < 2 ^ 32)
    × (v.offset < 2 ^ 32)
    × (v.len < 2 ^ 32)
    × (v.reader < 2 ^ 32)
    × (v.writer < 2 ^ 32)

-- those that are told of a parcel
abbrev pub FitsParcel : Option ViewData → Type 0
FitsParcel None = Unit {0}
FitsParcel (Some v) = FitsView v

-- those that are told of what was done, and its bytes, are of their types
abbrev pub FitsDid : Did → Type 0
FitsDid (Did.Take class region) = (class < 2 ^ 32) × FitsRegion region
FitsDid (Did.Full class) = class < 2 ^ 32
FitsDid (Did.Give region) = FitsRegion region
FitsDid (Did.Hit region) = region.taking < 2 ^ 64
FitsDid Did.Miss = Unit {0}
FitsDid (Did.Kept region) = region.taking < 2 ^ 64
FitsDid (Did.Back region why) = region.taking < 2 ^ 64
FitsDid (Did.Trim quota) = quota < 2 ^ 32
FitsDid (Did.Close quota) = quota < 2 ^ 32
FitsDid (Did.Shed region) = region.taking < 2 ^ 64
FitsDid (Did.Handle place) = place < 2 ^ 32
FitsDid Did.NoHandle = Unit {0}
FitsDid (Did.Home place) = place < 2 ^ 32
FitsDid (Did.Post parcel) = FitsParcel parcel.view
FitsDid (Did.Fetch parcel) = FitsParcel parcel.view
FitsDid (Did.Birth root region) = (root.generation < 2 ^ 32) × FitsUse region root.capacity
FitsDid (Did.Set offset bytes) = (offset < 2 ^ 32) × IsBytes bytes
FitsDid (Did.Get offset bytes) = (offset < 2 ^ 32) × IsBytes bytes
FitsDid Did.Touch = Unit {0}
FitsDid (Did.Room asked capacity) = (asked < 2 ^ 32) × (capacity < 2 ^ 32)
FitsDid (Did.Extend size) = size < 2 ^ 32
FitsDid (Did.Grow capacity region) = FitsUse region capacity
FitsDid (Did.End root) = root.generation < 2 ^ 32

-- a busy mark's
abbrev pub FitsHeld : Held → Type 0
FitsHeld held = FitsObject held.object × (held.number < 2 ^ 64)

-- ---- What is told.

-- nowhere
abbrev pub nowhere : Place
nowhere = record { arena = 0; chunk = 0; offset = 0; len = 0 }

-- a region of which this place, the number of its taking and its uses are told
abbrev pub region_told : Place → ℕ → ℕ → RegionId
region_told place taking uses =
    record { place = place; class = 0; owner = 0; taking = taking; uses = uses }

-- of a region its chunk, its offset and its taking are told
abbrev pub shown_region : RegionId → RegionId
shown_region r =
    region_told (record { arena = 0; chunk = r.place.chunk; offset = r.place.offset; len = 0 }) r.taking 0

-- its taking alone
abbrev pub taking_alone : RegionId → RegionId
taking_alone r = region_told nowhere r.taking 0

-- where it begins to be used: its place but for the bytes, its taking, and its uses
abbrev pub use_told : RegionId → RegionId
use_told r =
    region_told (record { arena = r.place.arena; chunk = r.place.chunk; offset = r.place.offset; len = 0 })
    r.taking r.uses

-- of a root its place and its generation are told
abbrev pub root_told : RootId → RootId
root_told root = record { place = root.place; generation = root.generation; capacity = 0 }

-- of a view all but the bytes of its root
abbrev pub seen_of : ViewData → ViewData
seen_of v = record v { root = root_told v.root }

-- and so of a parcel
abbrev pub view_told : Option ViewData → Option ViewData
view_told None = None
view_told (Some v) = Some (seen_of v)

-- what a line tells of what was done
abbrev pub did_told : Did → Did
did_told (Did.Take class region) = Did.Take class (shown_region region)
did_told (Did.Full class) = Did.Full class
did_told (Did.Give region) = Did.Give (shown_region region)
did_told (Did.Hit region) = Did.Hit (taking_alone region)
did_told Did.Miss = Did.Miss
did_told (Did.Kept region) = Did.Kept (taking_alone region)
did_told (Did.Back region why) = Did.Back (taking_alone region) why
did_told (Did.Trim quota) = Did.Trim quota
did_told (Did.Close quota) = Did.Close quota
did_told (Did.Shed region) = Did.Shed (taking_alone region)
did_told (Did.Handle place) = Did.Handle place
did_told Did.NoHandle = Did.NoHandle
did_told (Did.Home place) = Did.Home place
did_told (Did.Post parcel) = Did.Post (record { view = view_told parcel.view })
did_told (Did.Fetch parcel) = Did.Fetch (record { view = view_told parcel.view })
did_told (Did.Birth root region) =
    Did.Birth (record { place = 0; generation = root.generation; capacity = root.capacity }) (use_told region)
did_told (Did.Set offset bytes) = Did.Set offset bytes
did_told (Did.Get offset bytes) = Did.Get offset bytes
did_told Did.Touch = Did.Touch
did_told (Did.Room asked capacity) = Did.Room asked capacity
did_told (Did.Extend size) = Did.Extend size
did_told (Did.Grow capacity region) = Did.Grow capacity (use_told region)
did_told (Did.End root) = Did.End (record { place = 0; generation = root.generation; capacity = 0 })

-- ---- Whole notes.

-- what is told of a note
abbrev pub note_told : Note → Note
note_told (Note.At object number did) = Note.At object number (did_told did)
note_told (Note.Ref root did) = Note.Ref (root_told root) did
note_told (Note.Busy held) = Note.Busy held

-- the numbers that are told of a note are of their types, and what was done is done to such an object
abbrev pub FitsNote : Note → Type 0
FitsNote (Note.At object number did) =
    FitsObject object × (number < 2 ^ 64) × FitsDid did × (kind_done did ≡ kind_of object)
FitsNote (Note.Ref root did) = (root.place < 2 ^ 32) × (root.generation < 2 ^ 32) × FitsRef did
FitsNote (Note.Busy held) = FitsHeld held
