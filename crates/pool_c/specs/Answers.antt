-- What a call of a thread answered, did and left.
use Rattle.std.specs.Prelude.{◌≡◌, ℕ, ◌+◌, ℤ, pos, Bool, true, if◌then◌else◌, List, length, Option, Some, None, Result, Err, MatchResult, IsTrue}
use Rattle.pool_law.specs.declared.id.RootId.{RootId}
use Rattle.pool_law.specs.declared.note.Did.TheVariants as did
use Rattle.seat_work.specs.Changes.{once_less, once_more}
use Rattle.seat_work.specs.Works.{HasBorn}
use Rattle.seat_tries.specs.declared.allocation.AllocNo.{AllocNo}
use Rattle.seat_tries.specs.declared.allocation.AllocNo.TheVariants as tries
use Rattle.seat_tries.specs.Allocations.{refused}
use Rattle.seat_tries.specs.Leaving.{MeetsOther}
use Rattle.pool_law.specs.Limits.{geometry_of}
use Rattle.pool_member.specs.declared.member.Member.{Member}
use Rattle.pool_member.specs.Allotting.{IsAllotted, IsTryRefused}
use Rattle.pool_member.specs.Alone.{AreLaid, LaysOver}
use Rattle.pool_member.specs.Attempts.{as_try, HasTryCause}
use Rattle.pool_member.specs.Refusals.{is_here}
use Rattle.pool_member.specs.Threads.{Does, IsSettled, moves_after, Settles}
use Rattle.pool_member.specs.Tries.{HasAccessed, StaysOut}
use Rattle.pool_member.specs.Watching.{with_next}
use Rattle.pool_c.specs.declared.buffer.PoolBuffer.{PoolBuffer}
use Rattle.pool_c.specs.declared.codes.Refusal.{Refusal}
use Rattle.pool_c.specs.declared.codes.Refusal.TheVariants.{Busy, NoHandle, Full, Worn}
use Rattle.pool_c.specs.declared.held.Common.{Common}
use Rattle.pool_c.specs.Refusals.{buffer_refusal, has_range, root_of, size_refusal, window_of}

-- it was refused before it began, and the thread is as it was; or it did its work, or stopped
abbrev pub Answers : {A : Type 0} → Option Refusal → Result A Refusal → Member → Member →
    (A → Type 0) → (Refusal → Type 0) → Type 0
Answers (Some why) answer old new done stopped = (answer ≡ Err why) × (new ≡ old)
Answers None answer old new done stopped = MatchResult answer done stopped

-- ---- Bytes.

-- the thread accessed bytes of a buffer so; or another was at them
abbrev pub Accesses : {A : Type 0} → PoolBuffer → ℕ → ℕ → Common → Member → Member →
    Result A Refusal → Type 0 → Type 0
Accesses b start count c old new answer done =
    Answers (buffer_refusal c old.account b (has_range b start count) 1 0) answer old new
    (λ _. done) (λ why. (why ≡ Busy) × StaysOut c.shared (root_of b) old new)

-- bytes were laid over those of a buffer, from a place in it on, as one note
abbrev pub Sets : {A : Type 0} → PoolBuffer → ℕ → List ℕ → Common → Member → Member →
    Result A Refusal → Type 0
Sets b start bytes c old new answer =
    let root = root_of b in let at = b.offset + start in
    Accesses b start (length bytes) c old new answer
    (HasAccessed c.shared root (did.Set at bytes) (Some root) old new
    × LaysOver root at bytes old new)

-- these bytes are those of a buffer, from a place in it on, as one note found them; where the thread
-- alone has its root, they are those that it laid there
abbrev pub Gets : {A : Type 0} → PoolBuffer → ℕ → List ℕ → Common → Member → Member →
    Result A Refusal → Type 0
Gets b start bytes c old new answer =
    let root = root_of b in let at = b.offset + start in
    Accesses b start (length bytes) c old new answer
    (HasAccessed c.shared root (did.Get at bytes) None old new × AreLaid old root at bytes)

-- ---- Buffers.

-- the buffer of a whole new root of a thread, of the pool with this name
abbrev pub whole : ℕ → ℕ → RootId → PoolBuffer
whole pool thread root = record {
  pool = pool;
  thread = thread;
  place = root.place;
  generation = root.generation;
  capacity = root.capacity;
  offset = 0;
  length = root.capacity;
}

-- the thread has a new buffer of so many bytes, noted just what the law of lanes reads of that, and
-- counts a birth for the watching
pub record HasAllocated (size : ℕ) (c : Common) (old new : Member) (b : PoolBuffer) : Type 0 where
  pub whole_is : b ≡ whole c.name old.account.lane (root_of b)
  pub size_is : b.length ≡ size
  pub here : IsTrue (is_here new.account (window_of b))
  pub does : Does c.shared 6 (once_more (root_of b)) None old new
  pub moves : new.account.moves ≡ old.account.moves
  pub born : HasBorn c.shared (root_of b) old.seat new.seat
  pub notes : IsAllotted c.shared size (root_of b) old new
  pub watcher : new.watcher ≡ with_next old.watcher

-- a try of an allocation that stopped, as it is told here
abbrev pub as_stop : AllocNo → Refusal
as_stop tries.Busy = Busy
as_stop tries.NoHandle = NoHandle
as_stop tries.Full = Full
as_stop tries.Worn = Worn

-- it stopped for this cause, and no birth is counted; of an empty bin, and of an arena that is full for
-- so many bytes, it noted just what the law of lanes reads of that
pub record HasStopped (size : ℕ) (c : Common) (old new : Member) (why : Refusal) : Type 0 where
  pub stop : AllocNo
  pub why_is : why ≡ as_stop stop
  pub does : Does c.shared 6 (refused stop) None old new
  pub moves : new.account.moves ≡ old.account.moves
  pub cause : HasTryCause c.shared old new (as_try stop)
  pub notes : IsTryRefused c.shared size (as_try stop) old new
  pub watcher : new.watcher ≡ old.watcher

abbrev pub Allocs : ℕ → Common → Member → Member → Result PoolBuffer Refusal → Type 0
Allocs size c old new answer =
    Answers (size_refusal (geometry_of c.shared.table.layout.shape) old.account size) answer old new
    (HasAllocated size c old new) (HasStopped size c old new)

-- the thread counts a root once less, and it was told whether that was the last count of all
pub record HasReleased (root : RootId) (c : Common) (old new : Member) (ended : ℤ) : Type 0 where
  pub last : Bool
  pub ended_is : ended ≡ (if last then pos 1 else pos 0)
  pub does : Does c.shared 4 (once_less root last) None old new
  pub moves : new.account.moves ≡ moves_after last old.account.moves

-- it could not put away what it had to, since another was in the way, and nothing else changed
pub record StaysUnsettled (c : Common) (old new : Member) : Type 0 where
  pub settles : Settles c.shared old new
  pub cause : MeetsOther c.shared old.seat new.seat

-- a count of the buffer's root was given back
abbrev pub Releases : PoolBuffer → Common → Member → Member → Result ℤ Refusal → Type 0
Releases b c old new answer =
    Answers (buffer_refusal c old.account b true 4 0) answer old new
    (HasReleased (root_of b) c old new)
    (λ why. (why ≡ Busy) × StaysUnsettled c old new)

-- the thread counts the buffer's root once more, for a buffer on a part of it
pub record HasSliced (b : PoolBuffer) (start count : ℕ) (c : Common) (old new : Member)
    (part : PoolBuffer) : Type 0 where
  pub part_is : part ≡ record b { offset = b.offset + start; length = count }
  pub here : IsTrue (is_here new.account (window_of part))
  pub does : Does c.shared 1 (once_more (root_of b)) None old new
  pub moves : new.account.moves + 1 ≡ old.account.moves

abbrev pub Slices : PoolBuffer → ℕ → ℕ → Common → Member → Member → Result PoolBuffer Refusal →
    Type 0
Slices b start count c old new answer =
    Answers (buffer_refusal c old.account b (has_range b start count) 1 1) answer old new
    (HasSliced b start count c old new) (λ why. ⊥)

-- ---- What is to be put away.

-- it put away all that it had to, or is busy still
abbrev pub Settling : {A : Type 0} → Common → Member → Member → Result A Refusal → Type 0
Settling c old new answer =
    MatchResult answer (λ _. Settles c.shared old new × IsSettled new)
    (λ why. (why ≡ Busy) × (¬ IsSettled new) × StaysUnsettled c old new)
