-- The ends of a new pool's mails, before its seats have them. No public clause cites this module.
use Rattle.std.specs.Prelude.{◌≡◌, ℕ, ◌+◌, ◌*◌, ◌<◌, ◌≤◌, List, [], ◌++◌, length, All, HoldsAt, vec_capacity}
use Rattle.std.specs.Global.{Vec}
use Rattle.crossbeam_queue.specs.Passes.{Pass, view, IsPassOf}
use Rattle.shared_pool.specs.declared.mail.Mail.{Mail}
use Rattle.shared_pool.specs.declared.dealing.SeatRoom.{SeatRoom}
use Rattle.shared_pool.specs.declared.pool.SharedPool.{SharedPool}
use Rattle.shared_pool.specs.declared.seat.PoolSeat.{PoolSeat}
use Rattle.shared_pool.specs.MailEnds.{KnownEnds, no_ends}
use Rattle.shared_pool.specs.Mails.{ArePosts, AreFetches, IsFetchesEnd}
use Rattle.shared_pool.specs.Posting.{PostedLetter}

-- the pass is the first one of the mail that stands there
abbrev pub IsFirstPass : List Mail → ℕ → Pass PostedLetter KnownEnds → Type 0
IsFirstPass mails i pass =
    HoldsAt (λ m. IsPassOf m.queue pass × (view pass ≡ no_ends)) mails i

-- the passes are the first ones of so many mails, which stand from there on
pub record AreFirstPasses
    (mails : List Mail) (start count : ℕ) (passes : List (Pass PostedLetter KnownEnds)) : Type 0
  where
    pub many : length passes ≡ count
    pub each : (k : ℕ) → k < count → HoldsAt (IsFirstPass mails (start + k)) passes k

-- the rows are those of so many lanes, in order, each of the mails from that lane to all
pub record AreFirstRows
    (mails : List Mail) (lanes count : ℕ) (rows : List (Vec (Pass PostedLetter KnownEnds))) : Type 0
  where
    pub many : length rows ≡ count
    pub each : (from : ℕ) → from < count →
        HoldsAt (λ row. AreFirstPasses mails (from * lanes) lanes row.items) rows from

-- mails were put behind the others
pub record Longer (old new : List Mail) : Type 0 where
  pub more : List Mail
  pub is : new ≡ old ++ more

-- it is empty, with room for so many
abbrev pub IsEmptyFor : {X : Type 0} → ℕ → Vec X → Type 0
IsEmptyFor n v = (v.items ≡ []) × (n ≤ vec_capacity v)

-- there is room for the seats of so many lanes, and their ends that fetch
pub record HasSeatRoom (lanes : ℕ) (r : SeatRoom) : Type 0 where
  pub many : length r.fetches.items ≡ lanes
  pub fetches : All (IsEmptyFor lanes) r.fetches.items
  pub seats : IsEmptyFor lanes r.seats

-- the ends that fetch from the first so many lanes to this one, and room for the rest
pub record IsColumn
    (pool : SharedPool) (count lane : ℕ) (column : Vec (Pass PostedLetter KnownEnds)) : Type 0
  where
    pub room : pool.table.layout.shape.lanes ≤ vec_capacity column
    pub many : length column.items ≡ count
    pub ends : (from : ℕ) → from < count →
        HoldsAt (IsFetchesEnd pool from lane []) column.items from

-- so of each lane, in order
pub record AreColumns
    (pool : SharedPool) (count : ℕ) (columns : List (Vec (Pass PostedLetter KnownEnds))) : Type 0
  where
    pub many : length columns ≡ pool.table.layout.shape.lanes
    pub each : (lane : ℕ) → lane < pool.table.layout.shape.lanes →
        HoldsAt (IsColumn pool count lane) columns lane

-- each seat has its lane's ends of the mails, at which nothing went yet
pub record AreDealt (pool : SharedPool) (seats : List PoolSeat) : Type 0 where
  pub posts : (k : ℕ) → k < pool.table.layout.shape.lanes →
      HoldsAt (λ s. ArePosts pool k [] s.posts.items) seats k
  pub fetches : (k : ℕ) → k < pool.table.layout.shape.lanes →
      HoldsAt (λ s. AreFetches pool k [] s.fetches.items) seats k
