-- The threads with which a pool is closed.
use Rattle.std.specs.Prelude.{◌≡◌, ℕ, All, List, length, map, Some, slice_get}
use Rattle.pool_table.specs.declared.views.Part.{Part}
use Rattle.shared_pool.specs.declared.pool.SharedPool.{SharedPool}
use Rattle.shared_pool.specs.SeatViews.{view_of}
use Rattle.pool_member.specs.declared.answers.CloseNo.{CloseNo}
use Rattle.pool_member.specs.declared.answers.CloseNo.TheVariants as no
use Rattle.pool_member.specs.declared.closing.Records.{Records}
use Rattle.pool_member.specs.declared.member.Member.{Member}
use Rattle.pool_member.specs.Threads.{IsSettled}

-- the notes that each thread made
abbrev pub parts_of : List Member → List Part
parts_of members = map (λ m. (view_of m.seat).own) members

-- they are all of so many threads, in the order of their numbers
pub record AreAllOf (threads : ℕ) (members : List Member) : Type 0 where
  pub many : length members ≡ threads
  pub each : (k : ℕ) (m : Member) → slice_get members k ≡ Some m → m.account.lane ≡ k

abbrev pub AreAll : SharedPool → List Member → Type 0
AreAll pool members = AreAllOf pool.table.layout.shape.lanes members

-- what a thread has beside its seat
abbrev pub records_of : Member → Records
records_of m = record { account = m.account; watcher = m.watcher }

-- the cause of a refusal
abbrev pub MayRefuse : SharedPool → List Member → CloseNo → Type 0
MayRefuse pool members no.Threads = ¬ AreAll pool members
MayRefuse pool members no.Unsettled = AreAll pool members × (¬ All IsSettled members)
MayRefuse pool members no.Memory = Unit {0}
