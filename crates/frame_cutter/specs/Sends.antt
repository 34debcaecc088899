-- What a seat has noted of the blocks that it wrote, and of the slices of them that it sent.
use Rattle.std.specs.Prelude.{◌≡◌, ℕ, ◌+◌, ◌<◌, ◌≤◌, List, length, map, take, Option, Some, slice_get}
use Rattle.pool_law.specs.declared.id.RootId.{RootId}
use Rattle.pool_law.specs.declared.id.ViewData.{ViewData}
use Rattle.pool_law.specs.declared.note.Did.{Did}
use Rattle.pool_law.specs.declared.note.Noted.{Noted}
use Rattle.pool_law.specs.declared.note.Object.{Object}
use Rattle.pool_law.specs.declared.note.Object.TheVariants.{Mail}
use Rattle.pool_law.specs.declared.note.RefDid.{RefDid}
use Rattle.pool_law.specs.Mails.{posted}
use Rattle.pool_law.specs.Naming.{noted_by}
use Rattle.pool_law.specs.Roots.{bytes_at}
use Rattle.pool_law.specs.Views.{IsView}
use Rattle.pool_table.specs.declared.views.Entry.{Entry}
use Rattle.pool_table.specs.declared.views.Entry.TheVariants.{At, Ref}
use Rattle.shared_pool.specs.Closing.{note_of}
use Rattle.shared_pool.specs.Notes.{plain}
use Rattle.shared_pool.specs.RootNotes.{access}

-- ---- Blocks.

-- one of these notes of a lane writes these bytes over the front of a root
pub record Writes (es : List Entry) (lane : Option ℕ) (root : RootId) (bytes : List ℕ) : Type 0 where
  pub at : ℕ
  pub number : ℕ
  pub stands : slice_get es at ≡ Some (At (Object.Root root.place) number
      (noted_by lane (access root (Did.Set 0 bytes))))

-- at this place a note writes these bytes to a root, from an offset on
pub record WritesAt (es : List Entry) (at : ℕ) (noted : Noted) (offset : ℕ) (bytes : List ℕ) :
    Type 0 where
  pub place : ℕ
  pub number : ℕ
  pub stands : slice_get es at ≡ Some (At (Object.Root place) number noted)
  pub did : noted.did ≡ Did.Set offset bytes

-- the root is born before this place, behind all writes before it
pub record IsFresh (es : List Entry) (at : ℕ) (root : RootId) : Type 0 where
  pub birth : ℕ
  pub earlier : birth < at
  pub born : slice_get es birth ≡ Some (Ref root RefDid.Born)
  pub last : (before : ℕ) (noted : Noted) (offset : ℕ) (bytes : List ℕ) → before < at →
      WritesAt es before noted offset bytes → before < birth

-- each write goes to a root that was born behind the write before it
abbrev pub WriteFresh : List Entry → Type 0
WriteFresh es =
    (at : ℕ) (noted : Noted) (offset : ℕ) (bytes : List ℕ) → WritesAt es at noted offset bytes →
    (root : RootId) × ((noted.root ≡ Some root) × IsFresh es at root)

-- ---- Slices.

-- a view of a root that was written, with some bytes, and which they are
pub record IsSlice (es : List Entry) (lane : Option ℕ) (view : ViewData) (piece : List ℕ) : Type 0
  where
    pub bytes : List ℕ
    pub written : Writes es lane view.root bytes
    pub view_is : IsView view
    pub some : 0 < view.len
    pub inside : view.offset + view.len ≤ length bytes
    pub born_so : view.offset + view.len ≤ view.root.capacity
    pub piece_is : piece ≡ bytes_at bytes view.offset view.len

-- views of roots that were written, and the bytes of each
pub record AreSlices
    (es : List Entry) (lane : Option ℕ) (views : List ViewData) (pieces : List (List ℕ)) : Type 0
  where
    pub many : length views ≡ length pieces
    pub each : (k : ℕ) (view : ViewData) (piece : List ℕ) →
        slice_get views k ≡ Some view → slice_get pieces k ≡ Some piece → IsSlice es lane view piece

-- how many parcels these notes post to a lane
abbrev pub posts_in : ℕ → ℕ → List Entry → ℕ
posts_in sender receiver es = length (posted (Mail sender receiver) (map note_of es))

-- the parcel that is posted to another lane behind so many others has a slice with these bytes, which
-- were written before
pub record SendsSlice (es : List Entry) (sender receiver k : ℕ) (piece : List ℕ) : Type 0 where
  pub view : ViewData
  pub slice : IsSlice es (Some sender) view piece
  pub at : ℕ
  pub number : ℕ
  pub stands : slice_get es at ≡ Some (At (Mail sender receiver) number
      (noted_by (Some sender) (plain (Did.Post (record { view = Some view })))))
  pub earlier : posts_in sender receiver (take at es) ≡ k
  pub order : slice.written.at < at

-- just these pieces went to another lane, in this order
pub record HasSent (es : List Entry) (sender receiver : ℕ) (pieces : List (List ℕ)) : Type 0 where
  pub count : posts_in sender receiver es ≡ length pieces
  pub each : (k : ℕ) (piece : List ℕ) → slice_get pieces k ≡ Some piece →
      SendsSlice es sender receiver k piece
