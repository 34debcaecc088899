-- What a contract says of a board and its seats.
use Rattle.std.specs.Prelude.{◌≡◌, ℕ, ◌+◌, ◌<◌, ◌≤◌, List, [], length, Option, Some, None, All, slice_get, filter_map, box_value}
use Rattle.pool_law.specs.declared.id.Part.{Part}
use Rattle.pool_law.specs.declared.note.Held.{Held}
use Rattle.shared_pool.specs.declared.pool.SharedPool.{SharedPool}
use Rattle.board_table.specs.declared.counts.Let.{Let}
use Rattle.board_table.specs.declared.views.BoardView.{BoardView}
use Rattle.board_table.specs.Names.{named}
use Rattle.board_table.specs.Views.{stake_of, done}
use Rattle.board_table.specs.Sound.{IsSound, WasFree, WasHeld, reserve}
use Rattle.board_table.specs.Seats as table
use Rattle.board_table.specs.Releases.{IsReleased}
use Rattle.shared_composite.specs.declared.board.Board.{Board}
use Rattle.shared_composite.specs.declared.board.BoardSeat.{BoardSeat}
use Rattle.shared_composite.specs.declared.busy.Busy.{Busy}
use Rattle.shared_composite.specs.declared.busy.Busy.TheVariants as busy
use Rattle.shared_composite.specs.declared.cores.Core.{Core}
use Rattle.shared_composite.specs.declared.home.Home.{Home}
use Rattle.shared_composite.specs.declared.home.Origin.{Origin}
use Rattle.shared_composite.specs.Cores.{IsCore, IsKept, turns_of}
use Rattle.shared_composite.specs.Homes.{CoreStands, HomeStands, home_turns}
use Rattle.shared_composite.specs.Reading.{HasRead, FoundHeldPart}

-- ---- Boards and seats.

-- what the board was made from
abbrev pub origin_of : Board → Option Origin
origin_of board = named (table.opening_of board.table).origin

-- the pool of the seats of its cores
abbrev pub IsPoolOf : Board → SharedPool → Type 0
IsPoolOf board pool = (origin : Origin) × (origin_of board ≡ Some origin) × (pool ≡ origin.pool)

-- the components of composite k
abbrev pub parts_in : Option Core → List Part
parts_in None = []
parts_in (Some core) = core.parts

abbrev pub core_in : Option Origin → ℕ → Option Core
core_in None k = None
core_in (Some origin) k = slice_get origin.cores k

abbrev pub parts_of : Board → ℕ → List Part
parts_of board k = parts_in (core_in (origin_of board) k)

-- the core of composite k, with the components that it was made with, which its seat counts and knows as
-- at first: it has noted gets alone
abbrev pub IsAtHome : Board → ℕ → Core → Type 0
IsAtHome board k core =
    (origin : Origin) × (origin_of board ≡ Some origin) × CoreStands origin k core

-- a seat of the board, in no section
pub record IsFreeOf (board : Board) (seat : BoardSeat) : Type 0 where
  pub own : table.IsSeatOf board.table seat.seat
  pub outside : table.IsOutside seat.seat

abbrev pub IsSeatOf : Board → BoardSeat → Type 0
IsSeatOf board seat = IsFreeOf board seat

-- it is the same seat, whatever it knows now
abbrev pub SameSeat : BoardSeat → BoardSeat → Type 0
SameSeat old new = table.SameSeat old.seat new.seat

-- what the seat knows
abbrev pub view_of : BoardSeat → BoardView
view_of seat = table.view_of seat.seat

abbrev pub HasView : BoardSeat → BoardView → Type 0
HasView seat v = table.HasView seat.seat v

-- ---- Calls.

-- the count's word was found at one moment under the board's rule, and the answer is by that
abbrev pub IsReleasedOn : Board → Let → ℕ → BoardView → BoardView → Type 0
IsReleasedOn board result k v w =
    IsReleased (IsSound HomeStands home_turns (table.opening_of board.table)) result k v w

-- a section of composite k, which began after so many while nobody was in one: at that moment the core
-- was at home as `before` tells, and then it was further on by gets alone
pub record InSection
    (board : Board) (pool : SharedPool) (old new : BoardSeat) (k number : ℕ)
    (before after : Core) : Type 0
  where
    pub home : Home
    pub home_is : box_value home.core ≡ before
    pub was_free :
        WasFree (IsSound HomeStands home_turns (table.opening_of board.table)) k number home
        (view_of old)
    pub before_is : IsAtHome board k before
    pub after_is : IsAtHome board k after
    pub kept : IsKept before after
    -- the turn is spent
    pub view : HasView new (done k (view_of old))

-- the section read the range, and has this number
pub record HasReadOn
    (board : Board) (pool : SharedPool) (old new : BoardSeat) (k i number : ℕ)
    (bytes : List ℕ) : Type 0
  where
    pub before : Core
    pub after : Core
    pub earlier : ℕ
    pub number_is : number ≡ earlier + 1
    pub section : InSection board pool old new k earlier before after
    pub read : HasRead pool before after i bytes

-- the section found another seat at the root of a component; it read those before
pub record FoundPoolBusy
    (board : Board) (pool : SharedPool) (old new : BoardSeat) (k i : ℕ)
    (unfilled filled : List ℕ) (held : Held) : Type 0
  where
    pub before : Core
    pub after : Core
    pub earlier : ℕ
    pub section : InSection board pool old new k earlier before after
    pub found : FoundHeldPart pool before after i unfilled filled held

-- another seat of the board was in the section of composite k after so many, and nothing changed
pub record FoundBoardBusy
    (board : Board) (old new : BoardSeat) (k composite number : ℕ) (unfilled filled : List ℕ) :
    Type 0
  where
    pub composite_is : composite ≡ k
    pub was_held :
        WasHeld (IsSound HomeStands home_turns (table.opening_of board.table)) k number (view_of old)
    pub unchanged : HasView new (view_of old)
    pub unfilled_is : filled ≡ unfilled

abbrev pub IsBusyAs :
    Busy → Board → SharedPool → BoardSeat → BoardSeat → ℕ → ℕ → List ℕ → List ℕ → Type 0
IsBusyAs (busy.Board composite number) board pool old new k i unfilled filled =
    FoundBoardBusy board old new k composite number unfilled filled
IsBusyAs (busy.Pool held) board pool old new k i unfilled filled =
    FoundPoolBusy board pool old new k i unfilled filled held

-- ---- The opening and the close.

-- the cores have seats of one pool, each with the turns that all reads need
abbrev pub AreCores : SharedPool → ℕ → List Core → Type 0
AreCores pool turns cores = All (λ c. IsCore pool c × (reserve turns ≤ turns_of c)) cores

-- one place for each composite: the core where the seat didn't take it, and none where it did
pub record AreLeftAt (board : Board) (v : BoardView) (places : List (Option Core)) : Type 0 where
  pub many : length places ≡ board.table.composites
  pub left : (k : ℕ) → k < board.table.composites → (stake_of k v).taken ≡ 0 →
      (core : Core) × (slice_get places k ≡ Some (Some core)) × IsAtHome board k core
  pub taken : (k : ℕ) → k < board.table.composites → 0 < (stake_of k v).taken →
      slice_get places k ≡ Some None

-- the cores that the seat didn't take, in order
pub record AreLeft (board : Board) (v : BoardView) (cores : List Core) : Type 0 where
  pub places : List (Option Core)
  pub stand : AreLeftAt board v places
  pub are : cores ≡ filter_map (λ place. place) places

-- the board was made from these cores, for so many turns
pub record IsMadeOf (board : Board) (pool : SharedPool) (turns : ℕ) (cores : List Core) : Type 0 where
  pub pool_is : IsPoolOf board pool
  pub turns_are : (table.opening_of board.table).turns ≡ turns
  pub composites : board.table.composites ≡ length cores
  pub cores_are : (k : ℕ) → core_in (origin_of board) k ≡ slice_get cores k
