-- The threads of a new pool.
use Rattle.std.specs.Prelude.{◌≡◌, ℕ, ◌*◌, ◌<◌, false, All, List, [], length, Some, slice_get}
use Rattle.pool_law.specs.declared.id.RootId.{RootId}
use Rattle.pool_table.specs.declared.views.Layout.{Layout}
use Rattle.shared_pool.specs.declared.pool.SharedPool.{SharedPool}
use Rattle.shared_pool.specs.declared.seat.PoolSeat.{PoolSeat}
use Rattle.shared_pool.specs.SeatViews.{view_of}
use Rattle.pool_member.specs.declared.account.Account.{Account}
use Rattle.pool_member.specs.declared.member.Member.{Member}
use Rattle.pool_member.specs.Counting.{counted, is_alone, told}
use Rattle.pool_member.specs.Pendings.{nothing}
use Rattle.pool_member.specs.Threads.{IsKept, IsSettled}

-- the account of the thread of this number, which did nothing yet
pub record IsNew (l : Layout) (lane : ℕ) (a : Account) : Type 0 where
  pub lane_is : a.lane ≡ lane
  pub turns : a.turns ≡ l.turns
  pub moves : a.moves ≡ l.moves
  pub counts : (root : RootId) → counted a.counts root ≡ 0
  pub untold : (root : RootId) → told a.counts root ≡ 0
  pub alone : (root : RootId) → is_alone a.counts root ≡ false
  pub places : length a.counts ≡ l.shape.lanes * l.shape.handles
  pub received : (from : ℕ) → from < l.shape.lanes → slice_get a.received.items from ≡ Some 0

-- those of all threads, by number
pub record AreNew (l : Layout) (accounts : List Account) : Type 0 where
  pub many : length accounts ≡ l.shape.lanes
  pub each : (k : ℕ) (a : Account) → slice_get accounts k ≡ Some a → IsNew l k a

-- those of the threads of a new pool, which noted nothing and have nothing to put away
pub record AreNewThreads (l : Layout) (members : List Member) : Type 0 where
  pub many : length members ≡ l.shape.lanes
  pub each : (k : ℕ) (m : Member) → slice_get members k ≡ Some m → IsNew l k m.account
  pub unnoted : All (λ m. (view_of m.seat).own.notes ≡ []) members
  pub settled : All IsSettled members

-- each account is that of the seat at its place
pub record ArePaired (pool : SharedPool) (accounts : List Account) (seats : List PoolSeat) :
    Type 0 where
  pub many : length accounts ≡ length seats
  pub each : (k : ℕ) (a : Account) (s : PoolSeat) →
      slice_get accounts k ≡ Some a → slice_get seats k ≡ Some s → IsKept pool nothing a s
