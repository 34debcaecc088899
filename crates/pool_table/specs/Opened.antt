-- What a contract says of a table that has just been made.
use Rattle.step_law.specs.Settings.{Setting}
use Rattle.std.specs.Prelude.{◌≡◌, ℕ, ◌<◌, List, [], length, Some, slice_get, slice_index, HoldsAt}
use Rattle.step_law.specs.declared.Told.{Ghosts}
use Rattle.pool_law.specs.declared.note.Noted.{Noted}
use Rattle.pool_law.specs.declared.note.Object.{Object}
use Rattle.pool_law.specs.declared.run.Shape.{Shape}
use Rattle.pool_law.specs.Homes.{home_of, IsObjectOf}
use Rattle.history_laws.specs.Measures.{measures_of}
use Rattle.pool_table.specs.declared.views.Layout.{Layout}
use Rattle.pool_table.specs.declared.table.PoolTable.{PoolTable}
use Rattle.pool_table.specs.declared.table.PoolSeat.{PoolSeat}
use Rattle.pool_table.specs.Seats.{IsSeatOf, HasView}
use Rattle.pool_table.specs.Steps.{lane_view}

-- the first seat of a lane: its lane's number, its share of moves and turns, and no notes
abbrev pub IsFirstSeat : {H : Type 0} {G : Ghosts H Noted} →
    Layout → Setting → ℕ → PoolTable H → PoolSeat H G → Type 0
IsFirstSeat l g lane t s = IsSeatOf t s × HasView s (lane_view l lane g)

-- the seats are the first seats of all lanes, in order, under this setting
pub record AreFirstSeats {H : Type 0} {G : Ghosts H Noted}
    (l : Layout) (g : Setting) (t : PoolTable H) (seats : List (PoolSeat H G)) : Type 0 where
  pub many : length seats ≡ l.shape.lanes
  pub each : (k : ℕ) → k < l.shape.lanes → HoldsAt (IsFirstSeat l g k t) seats k

-- so many numbers, each 0
abbrev pub AreNone : ℕ → List ℕ → Type 0
AreNone n numbers = (length numbers ≡ n) × ((k : ℕ) → k < n → slice_index numbers k ≡ 0)

-- each object's home value stands for no notes
abbrev pub StandAtFirst : {H : Type 0} →
    (List ℕ → Setting → List Noted → H → Type 0) → Shape → Setting → List H → Type 0
StandAtFirst {H} stands s setting homes =
    (o : Object) → IsObjectOf s o →
    (x : H) × (slice_get homes (home_of s o) ≡ Some x) × stands (measures_of s o) setting [] x
