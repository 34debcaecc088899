-- What a thread of a pool is, and what its calls change.
use Rattle.std.specs.Prelude.{◌≡◌, ℕ, ◌+◌, ◌-◌, ◌*◌, ◌^◌, ◌<◌, ◌≤◌, Bool, true, false, if◌then◌else◌, nat_lt, length, IsTrue, Option, Some, slice_get}
use Rattle.pool_law.specs.declared.id.RootId.{RootId}
use Rattle.pool_table.specs.Capacities.{knows_of}
use Rattle.pool_table.specs.Counts.{gained_of, lost_of}
use Rattle.pool_table.specs.Lone.{IsLone}
use Rattle.pool_table.specs.Letters.{received_on, sent_on}
use Rattle.shared_pool.specs.declared.pool.SharedPool.{SharedPool}
use Rattle.shared_pool.specs.declared.seat.PoolSeat.{PoolSeat}
use Rattle.shared_pool.specs.MailAnswers.{HasOwnChannel}
use Rattle.shared_pool.specs.SeatViews.{view_of}
use Rattle.seat_work.specs.Changes.{Change, Changes, no_change, times}
use Rattle.seat_work.specs.Works.{IsLater, Works}
use Rattle.seat_tries.specs.Taking.{taken}
use Rattle.pool_member.specs.declared.account.Account.{Account}
use Rattle.pool_member.specs.declared.member.Member.{Member}
use Rattle.pool_member.specs.declared.pending.Pending.{Pending}
use Rattle.pool_member.specs.Alone.{KeepsAlone}
use Rattle.pool_member.specs.Counting.{counted, is_alone, known, told}
use Rattle.pool_member.specs.Pendings.{hand_of, nothing, owed, IsPending}
use Rattle.pool_member.specs.Returns.{given_with}

-- the seat is one of the pool with just that in hand which it has still to put away, and the account
-- is its own: so much is left at least beside what that takes, each root is counted so often, no more
-- is known of its capacity than the seat knows, the roots that are kept as its own alone are so, and so
-- many letters came from each thread. No count and no number of letters passes 2^62, since each takes
-- a turn
pub record IsKept (pool : SharedPool) (p : Pending) (a : Account) (s : PoolSeat) : Type 0 where
  pub works : Works pool (hand_of p) (a.turns + owed p) a.moves s
  pub pending : IsPending pool s p
  pub number : (view_of s).own.number ≡ Some a.lane
  pub counts : (root : RootId) →
      counted a.counts root + lost_of root (view_of s) ≡ gained_of root (view_of s)
  pub knows : (root : RootId) → told a.counts root ≤ knows_of root (view_of s)
  pub alone : (root : RootId) → IsTrue (is_alone a.counts root) → IsLone root (view_of s)
  pub places : length a.counts
      ≡ pool.table.layout.shape.lanes * pool.table.layout.shape.handles
  pub few : (root : RootId) → counted a.counts root + a.turns ≤ 2 ^ 62
  pub sent : (to : ℕ) → sent_on a.lane to (view_of s).own.notes + a.turns ≤ 2 ^ 62
  pub received : (from : ℕ) → from < pool.table.layout.shape.lanes →
      slice_get a.received.items from
      ≡ Some (received_on from a.lane (view_of s).own.notes)

-- it is a thread of the pool
abbrev pub IsThread : SharedPool → Member → Type 0
IsThread pool m = IsKept pool m.pending m.account m.seat

-- it has nothing to put away
abbrev pub IsSettled : Member → Type 0
IsSettled m = m.pending ≡ nothing

-- all letters of the pool go by channels of its user
abbrev pub HasOwnChannels : SharedPool → Type 0
HasOwnChannels pool =
    let lanes = pool.table.layout.shape.lanes in
    (from to : ℕ) → from < lanes → to < lanes → HasOwnChannel pool from to

-- of what it counts, but for the roots that this gives up, all that it keeps as its own alone it keeps
-- so still
abbrev pub KeepsOwn : Change → Account → Account → Type 0
KeepsOwn c old new =
    (root : RootId) → 0 < counted old.counts root → times root c.gone ≡ 0 →
    IsTrue (is_alone old.counts root) → IsTrue (is_alone new.counts root)

-- the same thread spent so many turns, counts these roots once more and those once less, and noted
-- just that of counts; of what it counts it knows no less capacity. It keeps what it alone has, but for
-- a root, and that it alone has it
pub record HasChanged (turns : ℕ) (c : Change) (but : Option RootId) (old new : Member) : Type 0
  where
    pub number : new.account.lane ≡ old.account.lane
    pub spent : new.account.turns + turns ≡ old.account.turns
    pub counts : (root : RootId) →
        counted new.account.counts root + times root c.gone
        ≡ counted old.account.counts root + times root c.got
    pub notes : Changes c (view_of old.seat) (view_of new.seat)
    pub knows : (root : RootId) → 0 < counted new.account.counts root →
        known old.account.counts root ≤ known new.account.counts root
    pub alone : KeepsAlone but old new
    pub owns : KeepsOwn c old.account new.account

-- the same thread with so many turns less, and more
abbrev pub less_turns : ℕ → Member → Member
less_turns n m = record m { account = record m.account { turns = m.account.turns - n } }

abbrev pub with_turns : ℕ → Member → Member
with_turns n m = record m { account = record m.account { turns = m.account.turns + n } }

-- it is a thread of the pool still
pub record Does
    (pool : SharedPool) (turns : ℕ) (c : Change) (but : Option RootId) (old new : Member) : Type 0
  where
    pub thread : IsThread pool new
    pub changed : HasChanged turns c but old new

-- the moves that a release leaves: one more where it wasn't the last, as long as that is below all
-- that a pool can have
abbrev pub moves_after : Bool → ℕ → ℕ
moves_after true moves = moves
moves_after false moves = if nat_lt moves (2 ^ 30) then moves + 1 else moves

-- the same thread went on with what it had to put away, and nothing else of it changed; a region that
-- was to go back to its arena went there or is to go there still, and none was taken. Where it had
-- nothing, nothing at all changed
pub record Settles (pool : SharedPool) (old new : Member) : Type 0 where
  pub thread : IsThread pool new
  pub later : IsLater pool old.seat new.seat
  pub changes : Changes no_change (view_of old.seat) (view_of new.seat)
  pub rest : new ≡ record old { seat = new.seat; pending = new.pending }
  pub returned : given_with old.seat old.pending ≤ given_with new.seat new.pending
  pub took : taken new.seat ≡ taken old.seat
  pub none : IsSettled old → new ≡ old
