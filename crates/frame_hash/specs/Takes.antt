-- What a seat has noted of the slices that it took.
use Rattle.std.specs.Prelude.{◌≡◌, ℕ, ◌+◌, ◌<◌, List, [], ◌++◌, length, map, take, Option, Some, IfSome, slice_get}
use Rattle.pool_law.specs.declared.id.Parcel.{Parcel}
use Rattle.pool_law.specs.declared.id.RootId.{RootId}
use Rattle.pool_law.specs.declared.id.ViewData.{ViewData}
use Rattle.pool_law.specs.declared.note.Did.{Did}
use Rattle.pool_law.specs.declared.note.Note.{Note}
use Rattle.pool_law.specs.declared.note.Object.{Object}
use Rattle.pool_law.specs.declared.note.Object.TheVariants.{Mail}
use Rattle.pool_law.specs.Mails.{fetched, posted}
use Rattle.pool_law.specs.Naming.{noted_by}
use Rattle.pool_table.specs.declared.views.Entry.{Entry}
use Rattle.pool_table.specs.declared.views.Entry.TheVariants.{At}
use Rattle.pool_table.specs.declared.views.SeatView.{SeatView}
use Rattle.pool_table.specs.Counts.{gained_of, lost_of}
use Rattle.seat_work.specs.Changes.{times}
use Rattle.seat_work.specs.HandOvers.{roots_in}
use Rattle.seat_work.specs.Hands.{empty_hand}
use Rattle.seat_work.specs.Works.{Goes}
use Rattle.shared_pool.specs.declared.pool.SharedPool.{SharedPool}
use Rattle.shared_pool.specs.declared.seat.PoolSeat.{PoolSeat}
use Rattle.shared_pool.specs.Closing.{note_of}
use Rattle.shared_pool.specs.Notes.{plain}
use Rattle.shared_pool.specs.RootNotes.{access}
use Rattle.shared_pool.specs.SeatViews.{view_of}
use Rattle.frame_hash.specs.declared.turns.TheConstants.{HASH_TURNS}

-- how many parcels these notes fetch from a lane
abbrev pub fetches_in : ℕ → ℕ → List Entry → ℕ
fetches_in sender receiver es = length (fetched (Mail sender receiver) (map note_of es))

-- these notes fetch no parcel
abbrev pub FetchNothing : List Entry → Type 0
FetchNothing es =
    (sender receiver : ℕ) → fetched (Mail sender receiver) (map note_of es) ≡ []

-- these notes post no parcel
abbrev pub PostNothing : List Entry → Type 0
PostNothing es =
    (sender receiver : ℕ) → posted (Mail sender receiver) (map note_of es) ≡ []

-- these notes write to no root
abbrev pub WriteNothing : List Entry → Type 0
WriteNothing es =
    (at number offset : ℕ) (root : RootId) (bytes : List ℕ) →
    slice_get (map note_of es) at
    ≡ Some (Note.At (Object.Root root.place) number (Did.Set offset bytes)) → ⊥

-- one of these notes of a lane reads all bytes of a view, and these are they
pub record ReadsView (es : List Entry) (lane : Option ℕ) (view : ViewData) (bytes : List ℕ) :
    Type 0 where
  pub at : ℕ
  pub number : ℕ
  pub stands : slice_get es at ≡ Some (At (Object.Root view.root.place) number
      (noted_by lane (access view.root (Did.Get view.offset bytes))))
  pub whole : length bytes ≡ view.len

-- the parcel that comes behind so many others from another lane is fetched, and if it has a view all
-- bytes of that are read later on: this piece
pub record Takes
    (es : List Entry) (lane : Option ℕ) (sender receiver k : ℕ) (piece : List ℕ) : Type 0 where
  pub parcel : Parcel
  pub at : ℕ
  pub number : ℕ
  pub stands : slice_get es at
      ≡ Some (At (Mail sender receiver) number (noted_by lane (plain (Did.Fetch parcel))))
  pub earlier : fetches_in sender receiver (take at es) ≡ k
  pub reads : IfSome parcel.view (λ view.
      (r : ReadsView es lane view piece) × (at < r.at))

-- the view counts no root: it lost each count that it gained
abbrev pub CountsNone : SeatView → Type 0
CountsNone v = (root : RootId) → gained_of root v ≡ lost_of root v

-- the view took these pieces from another lane, one with each parcel, let their roots go, and neither
-- posted nor wrote anything
pub record HasTaken (v : SeatView) (sender receiver : ℕ) (pieces : List (List ℕ)) :
    Type 0 where
  pub count : fetches_in sender receiver v.own.notes ≡ length pieces
  pub each : (k : ℕ) (piece : List ℕ) → slice_get pieces k ≡ Some piece →
      Takes v.own.notes v.own.number sender receiver k piece
  pub unposted : PostNothing v.own.notes
  pub unwritten : WriteNothing v.own.notes
  pub even : CountsNone v

-- the seat read this piece as all bytes of a view, if there is one, and let its root go
pub record HasSpent
    (pool : SharedPool) (view : Option ViewData) (piece : List ℕ) (old new : PoolSeat) :
    Type 0 where
  pub goes : Goes pool empty_hand HASH_TURNS 0 old new
  pub counts : (root : RootId) →
      times root (roots_in view) + gained_of root (view_of new) + lost_of root (view_of old)
      ≡ gained_of root (view_of old) + lost_of root (view_of new)
  pub added : List Entry
  pub notes : (view_of new).own.notes ≡ (view_of old).own.notes ++ added
  pub reads : IfSome view (λ v. ReadsView added (view_of old).own.number v piece)
  pub unfetched : FetchNothing added
  pub unposted : PostNothing added
  pub unwritten : WriteNothing added
