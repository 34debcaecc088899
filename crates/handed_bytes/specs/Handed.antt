-- What is written to a root, sent, fetched and read.
use Rattle.std.specs.Prelude.{◌≡◌, ℕ, ◌+◌, ◌<◌, ◌≤◌, List, length, take, Some}
use Rattle.pool_law.specs.declared.id.Parcel.{Parcel}
use Rattle.pool_law.specs.declared.id.RootId.{RootId}
use Rattle.pool_law.specs.declared.note.Did.{Did}
use Rattle.pool_law.specs.declared.note.Did.TheVariants.{Set, Get, Post, Fetch}
use Rattle.pool_law.specs.declared.note.Note.{Note}
use Rattle.pool_law.specs.declared.id.ViewData.{ViewData}
use Rattle.pool_law.specs.declared.note.Note.TheVariants.{At, Ref}
use Rattle.pool_law.specs.declared.note.RefDid.TheVariants.{Born}
use Rattle.pool_law.specs.declared.note.Object.{Object}
use Rattle.pool_law.specs.declared.note.Object.TheVariants.{Mail}
use Rattle.pool_law.specs.Lives.{StandsAt}
use Rattle.pool_law.specs.Logs.{Logs, entry_of, of_lane}
use Rattle.pool_law.specs.Mails.{posted, fetched}
use Rattle.pool_law.specs.Roots.{bytes_at}

-- a note at the place of a root, with its number
abbrev pub at_root : RootId → ℕ → Did → Note
at_root root number did = At (Object.Root root.place) number did

-- at this place of a lane's log, with this number, this is done to the root, and to no other root of
-- its place
pub record Accesses (logs : Logs) (lane : ℕ) (root : RootId) (did : Did) : Type 0 where
  pub at : ℕ
  pub number : ℕ
  pub stands : StandsAt logs lane at (at_root root number did)
  pub root_is : (entry_of logs (at_root root number did)).root ≡ Some root

-- a lane writes these bytes over the front of a root, and nothing else is ever written to it
pub record WritesOnce (logs : Logs) (lane : ℕ) (root : RootId) (bytes : List ℕ) : Type 0 where
  pub write : Accesses logs lane root (Set 0 bytes)
  pub only : (other offset : ℕ) (more : List ℕ) → (a : Accesses logs other root (Set offset more)) →
      a.number ≡ write.number

-- at this place of its log a lane posts this parcel, behind so many others to the same lane
pub record Posts (logs : Logs) (sender receiver k : ℕ) (parcel : Parcel) : Type 0 where
  pub at : ℕ
  pub number : ℕ
  pub stands : StandsAt logs sender at (At (Mail sender receiver) number (Post parcel))
  pub earlier : length (posted (Mail sender receiver) (take at (of_lane logs sender))) ≡ k

-- at this place of its log a lane fetches this parcel, behind so many others from the same lane
pub record Fetches (logs : Logs) (sender receiver k : ℕ) (parcel : Parcel) : Type 0 where
  pub at : ℕ
  pub number : ℕ
  pub stands : StandsAt logs receiver at (At (Mail sender receiver) number (Fetch parcel))
  pub earlier : length (fetched (Mail sender receiver) (take at (of_lane logs receiver))) ≡ k

-- what is fetched is what was posted, in the same order
abbrev pub FetchesWhatIsPosted : Logs → Type 0
FetchesWhatIsPosted logs =
    (sender receiver k : ℕ) (parcel got : Parcel) →
    Posts logs sender receiver k parcel → Fetches logs sender receiver k got →
    got ≡ parcel

-- a lane writes to a root once, and then posts a parcel; another fetches that, and then reads of the
-- root: it reads what was written
abbrev pub ReadsWhatIsWritten : Logs → Type 0
ReadsWhatIsWritten logs =
    (sender receiver k offset : ℕ) (parcel got : Parcel) (root : RootId) (bytes shown : List ℕ)
    (written : WritesOnce logs sender root bytes) (post : Posts logs sender receiver k parcel)
    (fetch : Fetches logs sender receiver k got)
    (read : Accesses logs receiver root (Get offset shown)) →
    written.write.at < post.at → fetch.at < read.at → offset + length shown ≤ length bytes →
    shown ≡ bytes_at bytes offset (length shown)

-- ---- Pieces of roots, from who sends them to who takes them.

-- the k-th parcel from one lane to another has this view, and these are its bytes: they were written
-- before that, and nothing else ever was
pub record SendsPiece (logs : Logs) (sender receiver k : ℕ) (view : ViewData) (piece : List ℕ) :
    Type 0 where
  pub bytes : List ℕ
  pub written : WritesOnce logs sender view.root bytes
  pub post : Posts logs sender receiver k (record { view = Some view })
  pub order : written.write.at < post.at
  pub inside : view.offset + view.len ≤ length bytes
  pub piece_is : piece ≡ bytes_at bytes view.offset view.len

-- the k-th parcel that a lane fetches from another has this view, of which it then reads this
pub record TakesPiece (logs : Logs) (sender receiver k : ℕ) (view : ViewData) (piece : List ℕ) :
    Type 0 where
  pub fetch : Fetches logs sender receiver k (record { view = Some view })
  pub read : Accesses logs receiver view.root (Get view.offset piece)
  pub order : fetch.at < read.at
  pub whole : length piece ≡ view.len

-- what is taken is what was sent, in the same order
abbrev pub TakesWhatIsSent : Logs → Type 0
TakesWhatIsSent logs =
    (sender receiver k : ℕ) (view seen : ViewData) (piece taken : List ℕ) →
    SendsPiece logs sender receiver k view piece → TakesPiece logs sender receiver k seen taken →
    taken ≡ piece

-- ---- Roots that are written where they are born.

-- a root is born in a lane's log behind all that the lane wrote to other roots before this write
pub record BornBefore (logs : Logs) (lane at : ℕ) (root : RootId) : Type 0 where
  pub birth : ℕ
  pub earlier : birth < at
  pub born : StandsAt logs lane birth (Ref root Born)
  pub last : (before number offset : ℕ) (other : RootId) (bytes : List ℕ) → before < at →
      StandsAt logs lane before (at_root other number (Set offset bytes)) → before < birth

-- one lane alone writes, and each write is to a root that was born behind the write before it
pub record WritesBehindBirths (logs : Logs) (lane : ℕ) : Type 0 where
  pub alone : (other at number offset : ℕ) (root : RootId) (bytes : List ℕ) →
      StandsAt logs other at (at_root root number (Set offset bytes)) → other ≡ lane
  pub births : (root : RootId) (offset : ℕ) (bytes : List ℕ) →
      (write : Accesses logs lane root (Set offset bytes)) → BornBefore logs lane write.at root

-- then each write is the only one to its root
abbrev pub WritesEachOnce : Logs → Type 0
WritesEachOnce logs =
    (lane : ℕ) (root : RootId) (bytes : List ℕ) → WritesBehindBirths logs lane →
    Accesses logs lane root (Set 0 bytes) → WritesOnce logs lane root bytes
