-- What a call that never waits answered, did and left.
use Rattle.std.specs.Prelude.{◌≡◌, ℕ, false, List, Option, Some, None}
use Rattle.pool_law.specs.declared.id.RootId.{RootId}
use Rattle.pool_law.specs.declared.note.Did.{Did}
use Rattle.pool_law.specs.declared.note.Held.{Held}
use Rattle.pool_law.specs.declared.note.Object.{Object}
use Rattle.pool_law.specs.declared.note.Object.TheVariants.{Root}
use Rattle.shared_pool.specs.declared.pool.SharedPool.{SharedPool}
use Rattle.shared_pool.specs.RootNotes.{access, IsSetOver}
use Rattle.shared_pool.specs.Seats.{FoundBusy, IsNoted}
use Rattle.seat_work.specs.Changes.{no_change}
use Rattle.pool_member.specs.declared.answers.AccessNo.{AccessNo}
use Rattle.pool_member.specs.declared.answers.TryNo.{TryNo}
use Rattle.pool_member.specs.declared.answers.TryNo.TheVariants.{Busy, Refused}
use Rattle.pool_member.specs.declared.member.Member.{Member}
use Rattle.pool_member.specs.Alone.{LaysOver}
use Rattle.pool_member.specs.Threads.{Does, IsThread}

-- it was refused for this cause, or was not, and was busy
abbrev pub IsTried : Option AccessNo → TryNo → Type 0
IsTried cause Busy = cause ≡ None
IsTried cause (Refused why) = cause ≡ Some why

-- another seat was at the object at this one step, and nothing of the thread changed, whose seat knows
-- what it knew
pub record FoundOther (pool : SharedPool) (o : Object) (old new : Member) : Type 0 where
  pub held : Held
  pub found : FoundBusy pool o false old.seat new.seat held
  pub rest : new ≡ record old { seat = new.seat }

-- what a call left of the thread that did not do its work on an object
abbrev pub Leaves : SharedPool → Object → Member → Member → TryNo → Type 0
Leaves pool o old new Busy = FoundOther pool o old new
Leaves pool o old new (Refused why) = new ≡ old

-- the thread accessed the root so, for one turn, and kept what it alone has, but for a root
pub record HasAccessed
    (pool : SharedPool) (root : RootId) (did : Did) (but : Option RootId) (old new : Member) :
    Type 0 where
  pub does : Does pool 1 no_change but old new
  pub moves : new.account.moves ≡ old.account.moves
  pub number : ℕ
  pub noted : IsNoted pool old.seat new.seat (Root root.place) number (access root did)

-- it set bytes of the root in place, for one turn, over those that a get would have got
pub record HasSetOver (pool : SharedPool) (root : RootId) (offset : ℕ) (before bytes : List ℕ)
    (old new : Member) : Type 0 where
  pub does : Does pool 1 no_change (Some root) old new
  pub moves : new.account.moves ≡ old.account.moves
  pub number : ℕ
  pub over : IsSetOver pool old.seat new.seat root number offset before bytes
  pub laid : LaysOver root offset bytes old new

-- it found another at the root, and is a thread of the pool still
pub record StaysOut (pool : SharedPool) (root : RootId) (old new : Member) : Type 0 where
  pub thread : IsThread pool new
  pub other : FoundOther pool (Root root.place) old new
