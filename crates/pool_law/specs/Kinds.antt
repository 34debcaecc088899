-- What is to be known of each kind of note at an object: a table each, with a row for every kind.
use Rattle.std.specs.Prelude.{ℕ}
use Rattle.pool_law.specs.declared.id.Parcel.{Parcel}
use Rattle.pool_law.specs.declared.note.Did.{Did}
use Rattle.pool_law.specs.declared.note.Did.TheVariants.{Take, Full, Give, Hit, Miss, Kept, Back, Trim, Close, Shed, Handle, NoHandle, Home, Post, Fetch, Birth, Set, Get, Touch, Room, Extend, Grow, End}

-- the lanes that may make a note
pub data Noter : Type 0 where
  Anyone : Noter  -- any lane, at an object with a history
  Owner : Noter  -- the lane of the cache or bin, or a lane of the arena
  Taker : (owner : ℕ) → Noter  -- a lane of the arena, which the note names as owner
  Sender : Noter  -- the first lane of the mail
  Receiver : Noter  -- the second lane of the mail

-- who may make a note
abbrev pub noter_of : Did → Noter
noter_of (Take class region) = Taker region.owner
noter_of (Full class) = Owner
noter_of (Give region) = Anyone
noter_of (Hit region) = Owner
noter_of Miss = Owner
noter_of (Kept region) = Anyone
noter_of (Back region why) = Anyone
noter_of (Trim quota) = Owner
noter_of (Close quota) = Owner
noter_of (Shed region) = Owner
noter_of (Handle place) = Owner
noter_of NoHandle = Owner
noter_of (Home place) = Anyone
noter_of (Post parcel) = Sender
noter_of (Fetch parcel) = Receiver
noter_of (Birth root region) = Anyone
noter_of (Set offset bytes) = Anyone
noter_of (Get offset bytes) = Anyone
noter_of Touch = Anyone
noter_of (Room asked capacity) = Anyone
noter_of (Extend size) = Anyone
noter_of (Grow capacity region) = Anyone
noter_of (End root) = Anyone

-- what a note of an object's history carries beside what was done
pub data Beside : Type 0 where
  Nothing : Beside
  ItsRoot : Beside  -- the root that is present
  ItsRegion : Beside  -- the region that it takes out
  ItsRootAndRegion : Beside  -- the root that is present, and the region that it leaves
  ItsWatch : Beside  -- the watch of a new root

-- what a note carries
abbrev pub beside : Did → Beside
beside (Take class region) = Nothing
beside (Full class) = Nothing
beside (Give region) = Nothing
beside (Hit region) = Nothing
beside Miss = Nothing
beside (Kept region) = Nothing
beside (Back region why) = Nothing
beside (Trim quota) = Nothing
beside (Close quota) = Nothing
beside (Shed region) = Nothing
beside (Handle place) = Nothing
beside NoHandle = Nothing
beside (Home place) = Nothing
beside (Post parcel) = Nothing
beside (Fetch parcel) = Nothing
beside (Birth root region) = ItsWatch
beside (Set offset bytes) = ItsRoot
beside (Get offset bytes) = ItsRoot
beside Touch = ItsRoot
beside (Room asked capacity) = ItsRoot
beside (Extend size) = ItsRoot
beside (Grow capacity region) = ItsRootAndRegion
beside (End root) = ItsRegion

-- what a note does with a parcel
pub data Passing : Type 0 where
  Stays : Passing
  Goes : (parcel : Parcel) → Passing
  Comes : (parcel : Parcel) → Passing

-- whether a parcel goes or comes
abbrev pub passing : Did → Passing
passing (Take class region) = Stays
passing (Full class) = Stays
passing (Give region) = Stays
passing (Hit region) = Stays
passing Miss = Stays
passing (Kept region) = Stays
passing (Back region why) = Stays
passing (Trim quota) = Stays
passing (Close quota) = Stays
passing (Shed region) = Stays
passing (Handle place) = Stays
passing NoHandle = Stays
passing (Home place) = Stays
passing (Post parcel) = Goes parcel
passing (Fetch parcel) = Comes parcel
passing (Birth root region) = Stays
passing (Set offset bytes) = Stays
passing (Get offset bytes) = Stays
passing Touch = Stays
passing (Room asked capacity) = Stays
passing (Extend size) = Stays
passing (Grow capacity region) = Stays
passing (End root) = Stays
