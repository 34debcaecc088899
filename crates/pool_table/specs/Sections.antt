-- What a contract says of a section.
use Rattle.step_law.specs.Settings.{Setting}
use Rattle.std.specs.Prelude.{◌≡◌, ℕ, List, [], ◌∷◌, ◌++◌, length, Bool, Option, Some, None, MatchBool}
use Rattle.atomic_table.specs.Table.{Me}
use Rattle.step_law.specs.declared.Told.{Ghosts}
use Rattle.pool_law.specs.declared.run.Shape.{Shape}
use Rattle.pool_law.specs.declared.note.Noted.{Noted}
use Rattle.pool_law.specs.declared.note.Held.{Held}
use Rattle.pool_law.specs.declared.note.Object.{Object}
use Rattle.pool_law.specs.Homes.{IsObjectOf}
use Rattle.pool_law.specs.Naming.{noted_by}
use Rattle.history_laws.specs.Histories.{IsLawful}
use Rattle.history_laws.specs.Measures.{measures_of}
use Rattle.pool_table.specs.declared.views.Entry.TheVariants.{Busy}
use Rattle.pool_table.specs.declared.views.Layout.{Layout}
use Rattle.pool_table.specs.declared.views.SeatView.{SeatView}
use Rattle.pool_table.specs.declared.table.PoolSeat.{PoolSeat}
use Rattle.pool_table.specs.declared.table.Section.{Section}
use Rattle.pool_table.specs.declared.table.HomeSlot.{HomeSlot}
use Rattle.pool_table.specs.Words.{word_of}
use Rattle.pool_table.specs.Slots.{slot_of}
use Rattle.pool_table.specs.Views.{entered, with_entry}
use Rattle.pool_table.specs.Sound.{WasHeld}
use Rattle.pool_table.specs.Seats.{view_of, HasView}
use Rattle.pool_table.specs.Learned.{Enters}

-- a seat is in the section of an object with this history, whose home value is out of its slot
pub record IsInside {H : Type 0}
    (s : Shape) (me : Me (Option H) SeatView) (o : Object) (slot : HomeSlot) (h : List Noted) :
    Type 0 where
  pub inside : me.0.inside ≡ Some (record { object = o; number = length h; history = h })
  pub holds : me.1 ≡ (slot.home, None) ∷ []
  pub slot_is : slot.home ≡ slot_of s o
  pub word_is : slot.word ≡ word_of s o
  pub object : IsObjectOf s o

-- the value stands for the history under the setting that the view knows
pub record StandsFor {H : Type 0}
    (stands : List ℕ → Setting → List Noted → H → Type 0) (measures : List ℕ)
    (v : SeatView) (h : List Noted) (x : H) :
    Type 0 where
  pub setting : Setting
  pub known : v.setting ≡ Some setting
  pub stands_for : stands measures setting h x

module _ {H : Type 0} {G : Ghosts H Noted}
    (stands : List ℕ → Setting → List Noted → H → Type 0) where
  -- the seat got into the section of the object, and learned its history
  pub record GotSection (l : Layout) (o : Object) (old new : PoolSeat H G) (section : Section H) :
      Type 0 where
    pub history : List Noted
    pub object : section.object ≡ o
    pub inside : IsInside l.shape new.seat.me o section.slot history
    pub view : view_of new ≡ entered (view_of old) o history (length history)
    pub learned : Enters stands l o (view_of old) history section.home

  -- another seat was in the section at this one step, after so many notes; with a mark the seat
  -- noted that
  pub record FoundHeld
      (l : Layout) (o : Object) (mark : Bool) (old new : PoolSeat H G) (held : Held) : Type 0 where
    pub object : held.object ≡ o
    pub marked : MatchBool mark
        (HasView new (with_entry (view_of old) (Busy held) (view_of old).turns))
        (HasView new (view_of old))
    pub was_held : WasHeld stands l o held.number (view_of old)

  -- the section may end with the note: it is accepted next, and the home value stands for it
  pub record MayEnd (s : Shape) (seat : PoolSeat H G) (section : Section H) (note : Noted) :
      Type 0 where
    pub history : List Noted
    pub inside : IsInside s seat.seat.me section.object section.slot history
    pub follows :
        IsLawful s section.object (history ++ noted_by (view_of seat).own.number note ∷ [])
    pub stands_for :
        StandsFor stands (measures_of s section.object) (view_of seat)
        (history ++ noted_by (view_of seat).own.number note ∷ [])
        section.home

  -- the section may end with no note: the home value stands for what it stood for
  pub record MayIdle (s : Shape) (seat : PoolSeat H G) (section : Section H) : Type 0 where
    pub history : List Noted
    pub inside : IsInside s seat.seat.me section.object section.slot history
    pub stands_for :
        StandsFor stands (measures_of s section.object) (view_of seat) history section.home
