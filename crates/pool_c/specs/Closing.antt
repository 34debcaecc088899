-- How a pool is closed for C.
use Rattle.std.specs.Prelude.{◌≡◌, ℕ, ℤ, ⊤, All, List, [], ◌∷◌, length, map, ◌⊎◌, Some, None, Result, Ok, Err, MatchResult, slice_get}
use Rattle.size_classes.specs.Sizes.{below}
use Rattle.pool_law.specs.Legal.{ends_from}
use Rattle.leak_records.specs.declared.live.LiveRoot.{LiveRoot}
use Rattle.shared_pool.specs.Closing.{logs_in}
use Rattle.shared_pool.specs.Live.{AreLiveRoots}
use Rattle.pool_member.specs.declared.member.Member.{Member}
use Rattle.pool_member.specs.Closing.{AreAllOf, parts_of}
use Rattle.pool_member.specs.Threads.{IsSettled}
use Rattle.pool_c.specs.declared.closing.PoolEnd.{PoolEnd}
use Rattle.pool_c.specs.declared.codes.Refusal.{Refusal}
use Rattle.pool_c.specs.declared.codes.Refusal.TheVariants as no
use Rattle.pool_c.specs.declared.held.Common.{Common}
use Rattle.pool_c.specs.declared.handle.PoolThread.{PoolThread}
use Rattle.pool_c.specs.Codes.{answer_code}
use Rattle.pool_c.specs.Handles.{handle_refusal, HasNothing}
use Rattle.pool_c.specs.Holding.{Holding}
use Rattle.pool_c.specs.Opening.{ArePut}

-- the threads behind handles
abbrev pub members_of : List Holding → List Member
members_of hs = map (λ h. h.member) hs

-- they are so many threads of pools with this name, in the order of their numbers
pub record HaveNumbers (name threads : ℕ) (hs : List Holding) : Type 0 where
  pub names : All (λ h. h.common.name ≡ name) hs
  pub all : AreAllOf threads (members_of hs)

-- they are all that the pool of the first of them has
abbrev pub AreWhole : List Holding → Type 0
AreWhole [] = ⊥
AreWhole (h ∷ hs) = HaveNumbers h.common.name h.common.threads (h ∷ hs)

-- they have one pool in common
abbrev pub AreOf : Common → List Holding → Type 0
AreOf c hs = All (λ h. h.common ≡ c) hs

pub record AreOne (hs : List Holding) : Type 0 where
  pub common : Common
  pub of : AreOf common hs

-- none of them has anything to put away
abbrev pub AreSettled : List Holding → Type 0
AreSettled hs = All IsSettled (members_of hs)

-- pools whose threads are behind these handles are one where they have one name
abbrev pub AreKnown : List PoolThread → Type 0
AreKnown threads = (j k : ℕ) (s t : PoolThread) (g h : Holding) →
    slice_get threads j ≡ Some s → slice_get threads k ≡ Some t →
    s.slot.held ≡ Some g → t.slot.held ≡ Some h →
    g.common.name ≡ h.common.name → g.common ≡ h.common

-- ---- What it answers.

-- a handle has a thread that is ready for a call; or some handle has none, for this reason
abbrev pub IsReady : PoolThread → Type 0
IsReady t = t.state ≡ 1

abbrev pub HasIdle : List PoolThread → Refusal → Type 0
HasIdle threads why =
    (k : ℕ) × (t : PoolThread) × (slice_get threads k ≡ Some t)
    × (handle_refusal t.state ≡ Some why)

-- the refusals of a handle
abbrev pub IsNoThread : Refusal → Type 0
IsNoThread no.Empty = ⊤
IsNoThread no.InCall = ⊤
IsNoThread why = ⊥

abbrev pub IsIdle : List PoolThread → Refusal → Type 0
IsIdle threads why = IsNoThread why × HasIdle threads why

-- the cause of a refusal of these threads, and that of these handles; want of memory, and that some
-- other handle has a share in the pool, have none but that all else was well
abbrev pub MayNotClose : List Holding → Refusal → Type 0
MayNotClose hs no.Threads = ¬ AreWhole hs
MayNotClose hs no.Unsettled = AreWhole hs × (¬ AreSettled hs)
MayNotClose hs no.Shared = AreWhole hs × AreSettled hs
MayNotClose hs why = ⊥

abbrev pub HasCause : List PoolThread → Refusal → Type 0
HasCause threads no.Empty = HasIdle threads no.Empty
HasCause threads no.InCall = HasIdle threads no.InCall
HasCause threads no.NoMemory = ⊤
HasCause threads why = (hs : List Holding) × ArePut hs threads × MayNotClose hs why

-- nothing is behind these handles
abbrev pub AreTaken : List PoolThread → Type 0
AreTaken threads = All (λ t. t.slot.held ≡ None) threads

abbrev pub AreEmpty : List PoolThread → Type 0
AreEmpty threads = All HasNothing threads

-- each handle has what it had
pub record AreBack (old new : List PoolThread) : Type 0 where
  pub holdings : List Holding
  pub had : ArePut holdings old
  pub has : ArePut holdings new

-- a refusal leaves the handles as they were, but that there may be no memory for that
abbrev pub MayLeave : List PoolThread → List PoolThread → Refusal → Type 0
MayLeave old new no.Threads = AreBack old new
MayLeave old new no.Unsettled = AreBack old new
MayLeave old new no.Shared = AreBack old new ⊎ AreEmpty new
MayLeave old new no.NoMemory = (new ≡ old) ⊎ (AreBack old new ⊎ AreEmpty new)
MayLeave old new why = new ≡ old

-- what stood as the pool of these threads was closed
pub record HasEnded (c : Common) (members : List Member) (end : PoolEnd) : Type 0 where
  pub chunks : let shape = c.shared.table.layout.shape in
      end.chunks ≡ length (ends_from shape (logs_in (parts_of members)) (below shape.arenas))
  pub leaks : List LiveRoot
  pub live : AreLiveRoots (parts_of members) leaks
  pub leaks_are : end.leaks ≡ length leaks

-- the same of the pool that they have in common
pub record HasEndedAs (hs : List Holding) (end : PoolEnd) : Type 0 where
  pub common : Common
  pub of : AreOf common hs
  pub ended : HasEnded common (members_of hs) end

-- the refusals that come after all tests
abbrev pub IsLate : Refusal → Type 0
IsLate no.Shared = ⊤
IsLate no.NoMemory = ⊤
IsLate why = ⊥

-- the pool of all these threads was closed
pub record HasClosed (old new : List PoolThread) (end : PoolEnd) : Type 0 where
  pub holdings : List Holding
  pub had : ArePut holdings old
  pub whole : AreWhole holdings
  pub ended : HasEndedAs holdings end
  pub empty : AreEmpty new

abbrev pub ClosesAs : List PoolThread → List PoolThread → Result PoolEnd Refusal → Type 0
ClosesAs old new (Ok end) = HasClosed old new end
ClosesAs old new (Err why) = HasCause old why × MayLeave old new why

-- it was told, and what stood was given out
pub record Closes (old new : List PoolThread) (was is : PoolEnd) (code : ℤ) : Type 0 where
  pub answer : Result PoolEnd Refusal
  pub told : code ≡ answer_code answer
  pub out : MatchResult answer (λ end. is ≡ end) (λ why. is ≡ was)
  pub closes : ClosesAs old new answer
