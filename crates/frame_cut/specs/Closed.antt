-- When no root is live as a pool is closed.
use Rattle.std.specs.Prelude.{◌≡◌, ℕ, ◌<◌, ◌≤◌, false, List, length, Some, slice_get}
use Rattle.pool_law.specs.declared.id.RootId.{RootId}
use Rattle.pool_law.specs.declared.note.Object.TheVariants.{Mail}
use Rattle.pool_law.specs.Counts.{count_over, is_birth}
use Rattle.pool_law.specs.Leaks.{is_live}
use Rattle.pool_law.specs.Logs.{Logs, of_lane}
use Rattle.pool_law.specs.Mails.{fetched, posted}
use Rattle.pool_table.specs.declared.views.Part.{Part}
use Rattle.shared_pool.specs.declared.seat.PoolSeat.{PoolSeat}
use Rattle.shared_pool.specs.Closing.{entries_in, logs_in}
use Rattle.shared_pool.specs.Seated.{parts_in}
use Rattle.shared_pool.specs.SeatViews.{view_of}
use Rattle.frame_hash.specs.Takes.{CountsNone}

-- each parcel that a lane posted to another was fetched there
abbrev pub AllFetched : Logs → Type 0
AllFetched logs =
    (from to : ℕ) → length (posted (Mail from to) (of_lane logs from))
    ≤ length (fetched (Mail from to) (of_lane logs to))

-- no seat counts a root, and no parcel is left
pub record AreSpent (seats : List PoolSeat) : Type 0 where
  pub counts : (lane : ℕ) (s : PoolSeat) → slice_get seats lane ≡ Some s → CountsNone (view_of s)
  pub fetched : AllFetched (logs_in (parts_in seats))

-- no root that was born is live at the end
abbrev pub NoneIsLive : List Part → Type 0
NoneIsLive parts =
    (root : RootId) → 0 < count_over (is_birth root) (entries_in parts) →
    is_live (logs_in parts) root ≡ false
