-- What a seat notes of a root that it asks for capacity, as the law reads it.
use Rattle.std.proofs.Common.{◌≡◌, ℕ, ◌<◌, ◌≤◌, Some}
use Rattle.std.specs.Prelude.{Ok}
use Rattle.size_classes.specs.Sizes.{class_of}
use Rattle.pool_law.specs.declared.id.Region.{Region}
use Rattle.pool_law.specs.declared.id.RegionId.{RegionId}
use Rattle.pool_law.specs.declared.id.RootId.{RootId}
use Rattle.pool_law.specs.declared.note.Object.TheVariants.{Root}
use Rattle.pool_law.specs.declared.run.Shape.{Shape}
use Rattle.pool_law.specs.Limits.{geometry_of}
use Rattle.pool_law.specs.Patterns.{Grown as LawGrown, found_room, grow_with, grown as grows, obtain, put_away, regrow}
use Rattle.pool_law.specs.Readers.{◌>>=◌, ◌>>◌, give}
use Rattle.pool_table.specs.declared.views.SeatView.{SeatView}
use Rattle.shared_pool.specs.declared.pool.SharedPool.{SharedPool}
use Rattle.shared_pool.specs.declared.seat.PoolSeat.{PoolSeat}
use Rattle.shared_pool.specs.declared.went.Grown.{Grown}
use Rattle.shared_pool.specs.declared.went.Room.{Room}
use Rattle.shared_pool.specs.Regrowing.{grown_note, room_capacity, room_did, IsGrownFor}
use Rattle.shared_pool.specs.RootNotes.{access}
use Rattle.shared_pool.specs.Seats.{IsNoted}
use Rattle.shared_pool.specs.SeatViews.{view_of}
use Rattle.seat_work.specs.Readings.{NotesAs, NotesOn}
use Rattle.seat_work.specs.Regrowths.{as_grown}
use Rattle.seat_work.proofs.GrowReads.{after_ask, after_enough, after_grown, after_short, grown_enough, grown_read, room_read}
use Rattle.seat_work.proofs.Noting.{notes_given, notes_on, notes_one, notes_to, one_noted}
use Rattle.seat_work.proofs.ReadLaws.{none_asked}

module _ (pool : SharedPool) (old new : PoolSeat) (root : RootId) (size number : ℕ) where
  pub room_noted : (room : Room) → IsNoted pool old new (Root root.place) number (access root (room_did size room))
      → NotesAs (found_room root size) (room_capacity size room) (view_of old) (view_of new)
  room_noted room noted =
      notes_one (found_room root size) (give (room_capacity size room)) (view_of old) (view_of new) _ none_asked
      (one_noted pool old new (Root root.place) number (access root (room_did size room)) noted)
      (room_read root size number (view_of old).own.number room)

  pub grown_noted : (into : Region) (g : Grown) → IsGrownFor size into g
      → IsNoted pool old new (Root root.place) number (grown_note root size into.id g)
      → NotesAs (grows root size into.id) (as_grown size g) (view_of old) (view_of new)
  grown_noted into g is noted =
      notes_one (grows root size into.id) (give (as_grown size g)) (view_of old) (view_of new) _ none_asked
      (one_noted pool old new (Root root.place) number (grown_note root size into.id g) noted)
      (grown_read root size number (view_of old).own.number into g is)

-- ---- What follows.

module _ (shape : Shape) (lane class size : ℕ) (root : RootId)
    (class_is : class_of (geometry_of shape) size ≡ Some class) (u v : SeatView) (k : ℕ)
    (asked : NotesAs (found_room root size) k u v) where
  pub enough_noted : size ≤ k → NotesAs (regrow shape lane root size) (Ok k) u v
  enough_noted le =
      let after = after_ask shape lane class size root class_is in
      notes_to (regrow shape lane root size) (after k) u v (give (Ok k))
      (after_enough shape lane class size root class_is k le) (notes_given (found_room root size) k after u v asked)

  pub short_noted : k < size
      → NotesOn (regrow shape lane root size) (obtain shape lane class >>= grow_with root size) u v
  short_noted lt =
      let after = after_ask shape lane class size root class_is in
      notes_to (regrow shape lane root size) (after k) u v (obtain shape lane class >>= grow_with root size)
      (after_short shape lane class size root class_is k lt) (notes_given (found_room root size) k after u v asked)

-- the root has so much, and the region that is left goes back
pub left_noted : (root : RootId) (size : ℕ) (into : RegionId) (g : LawGrown) (u v w : SeatView)
    → size ≤ g.capacity → NotesAs (grows root size into) g u v → NotesAs (put_away g.spare) tt v w
    → NotesAs (grow_with root size (Some into)) (Ok g.capacity) u w
left_noted root size into g u v w le first last =
    let whole = grow_with root size (Some into) in let rest = put_away g.spare >> give (Ok g.capacity) in
    notes_on whole rest u v (give (Ok g.capacity)) w
    (notes_to whole (after_grown size g) u v rest (grown_enough size g le)
    (notes_given (grows root size into) g (after_grown size) u v first))
    (notes_given (put_away g.spare) tt (λ _. give (Ok g.capacity)) v w last)
