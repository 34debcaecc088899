-- What steps add to a seat's own part, and how much one step may.
use Rattle.std.specs.Prelude.{◌≡◌, ℕ, ◌+◌, ◌<◌, ◌≤◌, ◌&&◌, ◌||◌, if◌then◌else◌, Bool, true, false, List, [], ◌∷◌, ◌++◌, length, map, sum_by}
use Rattle.pool_law.specs.declared.id.RootId.{RootId}
use Rattle.pool_law.specs.declared.note.Did.{Did}
use Rattle.pool_law.specs.declared.note.Did.TheVariants.{Take, Full, Give, Hit, Miss, Kept, Back, Trim, Close, Shed, Handle, NoHandle, Home, Post, Fetch, Birth, Set, Get, Touch, Room, Extend, Grow, End}
use Rattle.pool_law.specs.declared.note.Note.{Note}
use Rattle.pool_law.specs.declared.note.Note.TheVariants.{At, Ref, Busy}
use Rattle.pool_law.specs.Counts.{root_is}
use Rattle.pool_table.specs.declared.views.Entry.{Entry}
use Rattle.pool_table.specs.declared.views.Entry.TheVariants as entries
use Rattle.pool_table.specs.declared.views.SeatView.{SeatView}
use Rattle.pool_table.specs.Lone.{births}
use Rattle.shared_pool.specs.Closing.{note_of}

-- how many notes pass a test
abbrev pub how_many : (Note → Bool) → List Note → ℕ
how_many test [] = 0
how_many test (n ∷ ns) = (if test n then 1 else 0) + how_many test ns

-- a note of a section, which is made at an object or finds it busy
abbrev pub is_section : Note → Bool
is_section (At object number did) = true
is_section (Ref root did) = false
is_section (Busy held) = true

-- a note on the count of a root
abbrev pub is_count : Note → Bool
is_count (At object number did) = false
is_count (Ref root did) = true
is_count (Busy held) = false

-- what one step adds: at most one note of a section, and at most one on a count
pub record IsOneStep (notes : List Note) : Type 0 where
  pub sections : how_many is_section notes ≤ 1
  pub counts : how_many is_count notes ≤ 1

-- the view has these entries more in its own part, those of one step; each costs at most one turn
pub record HasMore (old new : SeatView) (added : List Entry) : Type 0 where
  pub notes : new.own.notes ≡ old.own.notes ++ added
  pub number : new.own.number ≡ old.own.number
  pub setting : new.setting ≡ old.setting
  pub turns : old.turns ≤ new.turns + length added
  pub one : IsOneStep (map note_of added)

-- the view has these entries more in its own part, those of steps one after another, each of which
-- cost at most one turn
pub record HasGrown (old new : SeatView) (added : List Entry) : Type 0 where
  pub notes : new.own.notes ≡ old.own.notes ++ added
  pub number : new.own.number ≡ old.own.number
  pub setting : new.setting ≡ old.setting
  pub turns : old.turns ≤ new.turns + length added

-- no root that one of the first entries bore is born by the others
abbrev pub BearsNew : List Entry → List Entry → Type 0
BearsNew first others =
    (root : RootId) → 0 < sum_by (births root) first → sum_by (births root) others ≡ 0

-- what was done neither accesses a root's bytes or capacity nor passes a parcel
abbrev pub is_quiet : Did → Bool
is_quiet (Take class region) = true
is_quiet (Full class) = true
is_quiet (Give region) = true
is_quiet (Hit region) = true
is_quiet Miss = true
is_quiet (Kept region) = true
is_quiet (Back region why) = true
is_quiet (Trim quota) = true
is_quiet (Close quota) = true
is_quiet (Shed region) = true
is_quiet (Handle place) = true
is_quiet NoHandle = true
is_quiet (Home place) = true
is_quiet (Post parcel) = false
is_quiet (Fetch parcel) = false
is_quiet (Birth root region) = true
is_quiet (Set offset bytes) = false
is_quiet (Get offset bytes) = false
is_quiet Touch = false
is_quiet (Room asked capacity) = false
is_quiet (Extend size) = false
is_quiet (Grow capacity region) = false
is_quiet (End root) = true

-- nor does this entry
abbrev pub is_quiet_entry : Entry → Bool
is_quiet_entry (entries.At object number noted) = is_quiet noted.did
is_quiet_entry (entries.Ref root did) = true
is_quiet_entry (entries.Busy held) = true

-- a root was asked for capacity, was extended or grew
abbrev pub is_ask : Did → Bool
is_ask (Room asked capacity) = true
is_ask (Extend size) = true
is_ask (Grow capacity region) = true
is_ask _ = false

-- this root was
abbrev pub asks_root : RootId → Entry → Bool
asks_root root (entries.At object number noted) = is_ask noted.did && root_is root noted.root
asks_root root (entries.Ref other did) = false
asks_root root (entries.Busy held) = false

-- the entry is quiet, or this root was asked so
abbrev pub is_quiet_but : RootId → Entry → Bool
is_quiet_but root e = is_quiet_entry e || asks_root root e
