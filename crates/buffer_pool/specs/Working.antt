-- What the threads of a pool that worked at once made of it, and what its close told.
use Rattle.std.specs.Prelude.{◌≡◌, All, List}
use Rattle.std.specs.List.{AllZip}
use Rattle.pool_law.specs.Legal.{ends_from}
use Rattle.shared_pool.specs.declared.pool.SharedPool.{SharedPool}
use Rattle.shared_pool.specs.Closing.{logs_in}
use Rattle.shared_pool.specs.Live.{AreLiveRoots}
use Rattle.size_classes.specs.Sizes.{below}
use Rattle.pool_member.specs.declared.answers.Closed.{Closed}
use Rattle.pool_member.specs.declared.config.Config.{Config}
use Rattle.pool_member.specs.declared.member.Member.{Member}
use Rattle.pool_member.specs.Closing as closing
use Rattle.pool_member.specs.Closing.{AreAll, parts_of}
use Rattle.pool_member.specs.Configs as opening
use Rattle.pool_member.specs.Configs.{IsLayoutOf}
use Rattle.pool_member.specs.Opening.{AreNewThreads}
use Rattle.pool_member.specs.Threads.{IsThread}
use Rattle.buffer_pool.specs.declared.working.WorkNo.{WorkNo}
use Rattle.buffer_pool.specs.declared.working.WorkNo.TheVariants as no

-- what a thread's work may make of it, in a pool: as it was before, and as it is behind
abbrev pub Did : Type 1
Did = SharedPool → Member → Member → Type 0

-- these threads of the pool worked, each as may be, and are threads of the pool still
pub record HaveWorked (did : Did) (pool : SharedPool) (old new : List Member) : Type 0 where
  pub each : AllZip (did pool) old new
  pub threads : All (IsThread pool) new

-- the new threads of a pool that was opened so worked, and are these now
pub record HasRun (did : Did) (c : Config) (pool : SharedPool) (members : List Member) : Type 0 where
  pub layout : IsLayoutOf c pool.table.layout
  pub first : List Member
  pub new : AreNewThreads pool.table.layout first
  pub worked : HaveWorked did pool first members

-- the pool was closed with all its threads, and the chunks and leaks that are told are those of their
-- notes
pub record IsClosed (pool : SharedPool) (members : List Member) (closed : Closed) : Type 0 where
  pub all : AreAll pool members
  pub chunks : (let shape = pool.table.layout.shape in
      closed.chunks ≡ ends_from shape (logs_in (parts_of members)) (below shape.arenas))
  pub leaks : AreLiveRoots (parts_of members) closed.leaks

-- some pool was opened so, and closed with what its threads were behind their work
abbrev pub HasEnded : Did → Config → Closed → Type 0
HasEnded did c closed = (pool : SharedPool) × (members : List Member)
    × HasRun did c pool members × IsClosed pool members closed

-- the cause of another end: none was opened, or its close was refused
abbrev pub MayRefuse : Did → Config → WorkNo → Type 0
MayRefuse did c (no.Open why) = opening.MayRefuse c why
MayRefuse did c (no.Close why) = (pool : SharedPool) × (members : List Member)
    × HasRun did c pool members × closing.MayRefuse pool members why
