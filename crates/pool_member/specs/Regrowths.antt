-- Why a buffer did not get the capacity that was asked, and what that left.
use Rattle.std.specs.Prelude.{◌≡◌, ℕ, nat_lt, if◌then◌else◌, Option, Some, None}
use Rattle.pool_law.specs.declared.id.RootId.{RootId}
use Rattle.size_classes.specs.Sizes.{Geometry, chunk_bytes}
use Rattle.seat_work.specs.Changes.{no_change}
use Rattle.pool_member.specs.declared.account.Account.{Account}
use Rattle.pool_member.specs.declared.answers.CapacityNo.{CapacityNo}
use Rattle.pool_member.specs.declared.answers.CapacityNo.TheVariants.{NotHere, TooLarge, Spent, Full}
use Rattle.pool_member.specs.declared.member.Member.{Member}
use Rattle.pool_member.specs.Refusals.{is_here}
use Rattle.pool_member.specs.Threads.{HasChanged}
use Rattle.pool_member.specs.Windows.{Window}

-- why it is refused before it begins, in the order of the tests
abbrev pub capacity_no : Geometry → Account → Window → ℕ → Option CapacityNo
capacity_no g a w size =
    if is_here a w
    then (if nat_lt (chunk_bytes g) size
    then Some TooLarge
    else (if nat_lt a.turns 6 then Some Spent else None))
    else Some NotHere

-- it was refused for this cause, or was not, and the arena was full
abbrev pub IsRefusedBy : Option CapacityNo → CapacityNo → Type 0
IsRefusedBy cause NotHere = cause ≡ Some NotHere
IsRefusedBy cause TooLarge = cause ≡ Some TooLarge
IsRefusedBy cause Spent = cause ≡ Some Spent
IsRefusedBy cause Full = cause ≡ None

-- the thread is as it was, but that it noted once that its arena was full, as it asked for this root
abbrev pub LeavesThread : RootId → Member → Member → CapacityNo → Type 0
LeavesThread root old new NotHere = new ≡ old
LeavesThread root old new TooLarge = new ≡ old
LeavesThread root old new Spent = new ≡ old
LeavesThread root old new Full =
    HasChanged 6 (record no_change { full = 1 }) (Some root) old new
