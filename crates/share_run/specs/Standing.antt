-- What holds of the pool's seats, of cores and of the board's first seat, step by step. No public clause
-- cites this module.
use Rattle.std.specs.Prelude.{◌≡◌, ℕ, ◌+◌, ◌-◌, ◌*◌, ◌<◌, ◌≤◌, List, [], length, map, take, sum_by, All, Some, slice_get, slice_index_or}
use Rattle.std.specs.List.{concat}
use Rattle.size_classes.specs.declared.TheConstants.{DEFAULT_PAGE}
use Rattle.pool_law.specs.declared.id.Part.{Part}
use Rattle.pool_law.specs.declared.id.RootId.{RootId}
use Rattle.pool_law.specs.declared.run.Level.{Level}
use Rattle.pool_law.specs.Composites.{size_of, whole_part}
use Rattle.pool_table.specs.declared.views.Layout.{Layout}
use Rattle.pool_table.specs.Counts.{posts}
use Rattle.shared_pool.specs.declared.pool.SharedPool.{SharedPool}
use Rattle.shared_pool.specs.declared.seat.PoolSeat.{PoolSeat}
use Rattle.shared_pool.specs.Seated.{IsDone}
use Rattle.shared_pool.specs.SeatViews.{view_of}
use Rattle.seat_work.specs.Changes.{Changes, once_more}
use Rattle.seat_work.specs.Hands.{empty_hand}
use Rattle.seat_work.specs.Works.{Goes, Works}
use Rattle.board_table.specs.Seats as table
use Rattle.board_table.specs.Sound.{reserve}
use Rattle.board_table.specs.Views.{stake_of, spent}
use Rattle.shared_composite.specs.declared.board.Board.{Board}
use Rattle.shared_composite.specs.declared.board.BoardSeat.{BoardSeat}
use Rattle.shared_composite.specs.declared.cores.Core.{Core}
use Rattle.shared_composite.specs.Boards as boards
use Rattle.shared_composite.specs.Cores.{CountsJust, IsCore, IsFit, IsKnown, IsUnderway, roots_of, turns_of}
use Rattle.share_text.specs.Inputs.{IsFew, byte_limit, part_limit}
use Rattle.share_run.specs.declared.openings.TheConstants.{BOARD_TURNS, ORDER, SEAT_TURNS}

-- ---- The pool.

-- one lane for each composite, with 24 handles, over one chunk
abbrev pub layout_of : ℕ → Layout
layout_of lanes =
    record {
      shape = record {
        page = DEFAULT_PAGE;
        order = ORDER;
        arenas = 1;
        chunks = 1;
        handles = 24;
        lanes = lanes;
        level = Level.Disabled;
        interval = 128;
      };
      moves = 0;
      turns = SEAT_TURNS;
    }

-- how often the seat's own notes post the root
abbrev pub posted : RootId → PoolSeat → ℕ
posted root s = sum_by (posts root) (view_of s).own.notes

-- the seat of this lane passed no parcel
pub record IsOfLane (lane : ℕ) (s : PoolSeat) : Type 0 where
  pub number : (view_of s).own.number ≡ Some lane
  pub unposted : (root : RootId) → posted root s ≡ 0

-- it did nothing yet
pub record IsFresh (pool : SharedPool) (lane : ℕ) (s : PoolSeat) : Type 0 where
  pub works : Works pool empty_hand SEAT_TURNS 0 s
  pub lane_is : IsOfLane lane s
  pub counted : CountsJust [] (view_of s)

-- these did nothing yet, the first of which is of this lane
abbrev pub AreFresh : SharedPool → ℕ → List PoolSeat → Type 0
AreFresh pool lane seats =
    (k : ℕ) (s : PoolSeat) → slice_get seats k ≡ Some s → IsFresh pool (lane + k) s

-- the seat counts nothing, has nothing in hand, and passed no parcel
pub record IsSpent (pool : SharedPool) (lane : ℕ) (s : PoolSeat) : Type 0 where
  pub done : IsDone pool lane s
  pub lane_is : IsOfLane lane s
  pub counted : CountsJust [] (view_of s)

abbrev pub AreSpent : SharedPool → List PoolSeat → Type 0
AreSpent pool seats = (k : ℕ) (s : PoolSeat) → slice_get seats k ≡ Some s → IsSpent pool k s

-- ---- Composites in the pool.

-- a new root has these bytes, which is this part, and the seat counts it
pub record HasPlaced
    (pool : SharedPool) (bytes : List ℕ) (p : Part) (old new : PoolSeat) : Type 0 where
  pub goes : Goes pool empty_hand 7 0 old new
  pub changes : Changes (once_more p.root) (view_of old) (view_of new)
  pub posts : (root : RootId) → posted root new ≡ posted root old
  pub part_is : p ≡ whole_part p.root
  pub len : p.root.capacity ≡ length bytes

-- a composite of an input, within its limits
pub record IsBounded (inputs : List (List ℕ)) : Type 0 where
  pub few : IsFew part_limit inputs
  pub short : All (λ part. length part ≤ byte_limit) inputs

abbrev pub AreBounded : List (List (List ℕ)) → Type 0
AreBounded composites = All IsBounded composites

-- the parts are as long as these
abbrev pub HasLengths : List (List ℕ) → List Part → Type 0
HasLengths inputs parts = map (λ p. p.len) parts ≡ map length inputs

-- the first parts of the input are in the pool, and the seat has the turns for the others
pub record IsFilling
    (pool : SharedPool) (lane : ℕ) (inputs : List (List ℕ)) (at : ℕ) (parts : List Part)
    (s : PoolSeat) : Type 0
  where
    pub works : Works pool empty_hand (reserve BOARD_TURNS + 7 * (length inputs - at)) 0 s
    pub lane_is : IsOfLane lane s
    pub counted : CountsJust (roots_of parts) (view_of s)
    pub known : All (IsKnown (view_of s)) parts
    pub short : All (λ p. p.offset + p.len ≤ byte_limit) parts
    pub lens : HasLengths (take at inputs) parts

-- the seat of this lane counts just these parts, which are as long as those of the input
pub record IsFilled
    (pool : SharedPool) (lane : ℕ) (inputs : List (List ℕ)) (parts : List Part) (s : PoolSeat) :
    Type 0 where
  pub fit : IsFit pool s parts
  pub lane_is : IsOfLane lane s
  pub lens : HasLengths inputs parts
  pub turns : reserve BOARD_TURNS ≤ (view_of s).turns

-- a core of the pool with the seat of this lane, whose components are as long as those of the input
pub record IsCoreOf
    (pool : SharedPool) (lane : ℕ) (inputs : List (List ℕ)) (core : Core) : Type 0 where
  pub core_is : IsCore pool core
  pub lane_is : IsOfLane lane core.seat
  pub lens : HasLengths inputs core.parts

-- of each composite of the input its core, with the turns that all reads need
pub record AreCoresOf
    (pool : SharedPool) (composites : List (List (List ℕ))) (cores : List Core) : Type 0 where
  pub many : length cores ≡ length composites
  pub each : (k : ℕ) (c : Core) → slice_get cores k ≡ Some c →
      IsCoreOf pool k (slice_index_or composites k []) c × (reserve BOARD_TURNS ≤ turns_of c)

-- a core of which components are being released
pub record IsEnding
    (pool : SharedPool) (lane : ℕ) (inputs : List (List ℕ)) (core : Core) : Type 0 where
  pub underway : IsUnderway pool core
  pub lane_is : IsOfLane lane core.seat
  pub lens : HasLengths inputs core.parts

-- ---- The board.

-- the board of the cores of these composites
pub record IsBoardOf
    (board : Board) (pool : SharedPool) (composites : List (List (List ℕ))) : Type 0 where
  pub pool_is : boards.IsPoolOf board pool
  pub turns : (table.opening_of board.table).turns ≡ BOARD_TURNS
  pub many : board.table.composites ≡ length composites
  pub sizes : (k : ℕ) → k < length composites →
      size_of (boards.parts_of board k) ≡ length (concat (slice_index_or composites k []))
  pub cores : (k : ℕ) (core : Core) → boards.IsAtHome board k core →
      IsCoreOf pool k (slice_index_or composites k []) core

-- the board's first seat: it has taken the first composites, and counts the others up to this many, for
-- each of which a turn is left
pub record IsChief (board : Board) (many taken : ℕ) (s : BoardSeat) : Type 0 where
  pub own : boards.IsSeatOf board s
  pub counts : (j : ℕ) → taken ≤ j → j < many → table.Counts j (boards.view_of s)
  pub took : (j : ℕ) → j < taken → 0 < (stake_of j (boards.view_of s)).taken
  pub turns : many ≤ (boards.view_of s).turns + taken

-- its turns and sections together
abbrev pub spent_by : BoardSeat → ℕ
spent_by s = spent (boards.view_of s)
