-- How a thread has a buffer get longer, gives memory back, and looks at counts.
use Rattle.std.specs.Prelude.{◌≡◌, ℕ, ◌+◌, ◌-◌, ◌<◌, ◌≤◌, ◌==◌, true, if◌then◌else◌, Option, Some, None, option_map, Result, Ok, Err, MatchResult, IsTrue}
use Rattle.pool_law.specs.Limits.{cached_classes, geometry_of}
use Rattle.pool_law.specs.declared.note.Did.TheVariants as did
use Rattle.pool_law.specs.declared.note.RefDid.TheVariants.{Look}
use Rattle.pool_law.specs.declared.run.Reply.TheVariants.{Full}
use Rattle.pool_table.specs.Counts.{with_ref}
use Rattle.shared_pool.specs.SeatViews.{HasView, view_of}
use Rattle.seat_work.specs.Changes.{no_change}
use Rattle.seat_work.specs.Regrowths.{IsTold}
use Rattle.pool_member.specs.declared.account.Account.{Account}
use Rattle.pool_member.specs.declared.answers.CapacityNo.{CapacityNo}
use Rattle.pool_member.specs.declared.answers.CapacityNo.TheVariants as capacity
use Rattle.pool_member.specs.declared.member.Member.{Member}
use Rattle.pool_member.specs.Alone.{GrowsAlone}
use Rattle.pool_member.specs.Growing.{IsGrown}
use Rattle.pool_member.specs.Growths.{MeetsOtherBut}
use Rattle.pool_member.specs.Refusals.{is_here}
use Rattle.pool_member.specs.Regrowths.{capacity_no}
use Rattle.pool_member.specs.Threads.{Does, IsSettled}
use Rattle.pool_member.specs.Tries.{HasAccessed, StaysOut}
use Rattle.pool_member.specs.Trims.{AreEmpty, HasPaid, HasTrimmed, MeetsAny}
use Rattle.pool_c.specs.declared.buffer.PoolBuffer.{PoolBuffer}
use Rattle.pool_c.specs.declared.codes.Refusal.{Refusal}
use Rattle.pool_c.specs.declared.codes.Refusal.TheVariants as no
use Rattle.pool_c.specs.declared.held.Common.{Common}
use Rattle.pool_c.specs.Answers.{Answers}
use Rattle.pool_c.specs.Refusals.{buffer_refusal, root_of, window_of}

-- ---- Capacity.

-- the refusal of an ask for capacity, as it is told here
abbrev pub of_capacity : CapacityNo → Refusal
of_capacity capacity.NotHere = no.NotHere
of_capacity capacity.TooLarge = no.TooLarge
of_capacity capacity.Spent = no.Spent
of_capacity capacity.Full = no.Full

-- why a buffer is not asked for so many bytes, in the order of the tests
abbrev pub capacity_refusal : Common → Account → PoolBuffer → ℕ → Option Refusal
capacity_refusal c a b size =
    if b.pool == c.name
    then option_map of_capacity
    (capacity_no (geometry_of c.shared.table.layout.shape) a (window_of b) size)
    else Some no.NotHere

-- the buffer reaches up to the last of so many bytes, which are enough, and were told in this call, in
-- notes that are just what the law of lanes reads of an ask for so many;
-- where the thread alone has its root it has it alone still, with zeros behind what it laid there
pub record HasGrown (b : PoolBuffer) (size : ℕ) (c : Common) (old new : Member) (grown : PoolBuffer) :
    Type 0 where
  pub bytes : ℕ
  pub enough : size ≤ bytes
  pub reached : b.offset + b.length ≤ bytes
  pub grown_is : grown ≡ record b { length = bytes - b.offset }
  pub here : IsTrue (is_here new.account (window_of grown))
  pub told : IsTold c.shared (root_of b) bytes old.seat new.seat
  pub notes : IsGrown c.shared (root_of b) size (Ok bytes) old new
  pub does : Does c.shared 6 no_change (Some (root_of b)) old new
  pub alone : GrowsAlone (root_of b) old new
  pub moves : new.account.moves ≡ old.account.moves

-- another was in the way, or the arena was full for so many bytes, as was noted once, behind too small
-- a capacity; no other answer comes
abbrev pub StopsGrowing : PoolBuffer → ℕ → Common → Member → Member → Refusal → Type 0
StopsGrowing b size c old new no.Busy =
    Does c.shared 6 no_change (Some (root_of b)) old new
    × GrowsAlone (root_of b) old new
    × (new.account.moves ≡ old.account.moves)
    × MeetsOtherBut (root_of b) c.shared old.seat new.seat
StopsGrowing b size c old new no.Full =
    Does c.shared 6 (record no_change { full = 1 }) (Some (root_of b)) old new
    × GrowsAlone (root_of b) old new
    × (new.account.moves ≡ old.account.moves)
    × IsGrown c.shared (root_of b) size (Err Full) old new
StopsGrowing b size c old new why = ⊥

abbrev pub Grows : PoolBuffer → ℕ → Common → Member → Member → Result PoolBuffer Refusal → Type 0
Grows b size c old new answer =
    Answers (capacity_refusal c old.account b size) answer old new (HasGrown b size c old new)
    (StopsGrowing b size c old new)

-- ---- Caches.

-- why it gave back no more: another was in the way, or fewer turns are left than a step takes
abbrev pub StopsTrimming : Common → Member → Member → Refusal → Type 0
StopsTrimming c old new no.Busy = MeetsAny c.shared old.seat new.seat
StopsTrimming c old new no.Spent = new.account.turns < 2
StopsTrimming c old new why = ⊥

-- the thread gave back what its caches kept, each of which a step of this call found empty, or some,
-- and spent turns for just that
abbrev pub Trims : {A : Type 0} → Common → Member → Member → Result A Refusal → Type 0
Trims c old new answer =
    HasTrimmed c.shared old new × HasPaid cached_classes old new × MatchResult answer
    (λ _. AreEmpty c.shared cached_classes old.seat new.seat × IsSettled new)
    (StopsTrimming c old new)

-- ---- Counts.

-- the count of the buffer's root over all threads and parcels, as this one step found it
pub record HasLooked (b : PoolBuffer) (c : Common) (old new : Member) (count : ℕ) : Type 0 where
  pub does : Does c.shared 0 no_change None old new
  pub account : new.account ≡ old.account
  pub looked : let v = view_of old.seat in
      HasView new.seat (with_ref v (root_of b) (Look count) v.moves)

abbrev pub Looks : PoolBuffer → Common → Member → Member → Result ℕ Refusal → Type 0
Looks b c old new answer =
    Answers (buffer_refusal c old.account b true 0 0) answer old new (HasLooked b c old new)
    (λ why. ⊥)

-- it was noted that the buffer was touched
abbrev pub Touches : {A : Type 0} → PoolBuffer → Common → Member → Member → Result A Refusal →
    Type 0
Touches b c old new answer =
    Answers (buffer_refusal c old.account b true 1 0) answer old new
    (λ _. HasAccessed c.shared (root_of b) did.Touch None old new)
    (λ why. (why ≡ no.Busy) × StaysOut c.shared (root_of b) old new)
