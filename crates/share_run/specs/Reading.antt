-- What readers have, and what they did. No public clause cites this module.
use Rattle.std.specs.Prelude.{◌≡◌, ℕ, ◌+◌, ◌<◌, ◌≤◌, ◌==◌, if◌then◌else◌, List, [], length, map, sum_by, All, Option, Some, None, MatchOption, slice_index_or, vec_len, vec_capacity}
use Rattle.board_table.specs.declared.views.BoardView.{BoardView}
use Rattle.pool_law.specs.Composites.{size_of}
use Rattle.board_table.specs.Views.{spent as all_of, stake_of}
use Rattle.shared_composite.specs.declared.board.Board.{Board}
use Rattle.shared_composite.specs.declared.board.BoardSeat.{BoardSeat}
use Rattle.shared_composite.specs.Boards.{view_of, IsSeatOf, parts_of}
use Rattle.share_text.specs.declared.lines.Seen.{Seen}
use Rattle.share_text.specs.Lines.{seen_of}
use Rattle.share_run.specs.declared.readers.Reader.{Reader}
use Rattle.share_run.specs.Standing.{spent_by}

-- ---- Reads.

-- the composites that are read, in order, of a reader and of each
abbrev pub asked_in : List Seen → List ℕ
asked_in seen = map (λ s. s.composite) seen

abbrev pub asked_of : List Reader → List (List ℕ)
asked_of readers = map (λ r. asked_in r.seen.items) readers

-- the moves that such readers need at most: one for each read, and one for each reader
abbrev pub moves_for : List (List ℕ) → ℕ
moves_for asked = sum_by (λ reads. length reads + 1) asked

-- the bytes of a composite
abbrev pub whole_of : List (List ℕ) → ℕ → List ℕ
whole_of wholes k = slice_index_or wholes k []

-- a read of one of the composites, as long as it
pub record FitsWhole (wholes : List (List ℕ)) (s : Seen) : Type 0 where
  pub below : s.composite < length wholes
  pub len : length s.bytes ≡ length (whole_of wholes s.composite)

-- a read of a composite that was made
abbrev pub seen_whole : List (List ℕ) → ℕ → Seen
seen_whole wholes k = record { composite = k; bytes = whole_of wholes k }

-- a composite of the board has as many bytes as are written of it
abbrev pub AreSized : Board → List (List ℕ) → Type 0
AreSized board wholes =
    (k : ℕ) → k < length wholes → length (whole_of wholes k) ≡ size_of (parts_of board k)

-- ---- Readers.

-- a reader before it has a seat
pub record IsBlank (wholes : List (List ℕ)) (r : Reader) : Type 0 where
  pub seat : r.seat ≡ None
  pub names : r.names.items ≡ []
  pub room : vec_len r.seen < vec_capacity r.names
  pub fits : All (FitsWhole wholes) r.seen.items

abbrev pub AreBlank : List (List ℕ) → List Reader → Type 0
AreBlank wholes readers = All (IsBlank wholes) readers

-- the view counts each composite at least as often as it is there
abbrev pub times_in : ℕ → List ℕ → ℕ
times_in k names = sum_by (λ name. if name == k then 1 else 0) names

abbrev pub Covers : List ℕ → BoardView → Type 0
Covers names v = (j : ℕ) → times_in j names ≤ (stake_of j v).counts

-- each composite that is read is there
abbrev pub Names : List ℕ → List Seen → Type 0
Names names seen = All (λ s. 0 < times_in s.composite names) seen

-- the seat counts these composites, and has so many turns
pub record MayRead (board : Board) (turns : ℕ) (names : List ℕ) (s : BoardSeat) : Type 0 where
  pub own : IsSeatOf board s
  pub turns_are : (view_of s).turns ≡ turns
  pub covers : Covers names (view_of s)

-- a reader that counts each composite that it is to read, if it has a read to make
pub record IsReady (board : Board) (wholes : List (List ℕ)) (r : Reader) : Type 0 where
  pub fits : All (FitsWhole wholes) r.seen.items
  pub names : Names r.names.items r.seen.items
  pub seat : MatchOption r.seat (r.seen.items ≡ []) (MayRead board r.turns r.names.items)

-- the seat is one of the board, and counts what it counted; its sections and turns are as many
pub record Keeps (board : Board) (old new : BoardSeat) : Type 0 where
  pub own : IsSeatOf board new
  pub counts : (j : ℕ) → (stake_of j (view_of new)).counts ≡ (stake_of j (view_of old)).counts
  pub spent : spent_by new ≡ spent_by old

-- a seat with so many turns at most, and sections and turns together, was dealt out of a view, at so
-- many moves at most
pub record Deals (turns moves spent : ℕ) (old new : BoardView) : Type 0 where
  pub turns_left : old.turns ≤ new.turns + turns
  pub moves_left : old.moves ≤ new.moves + moves
  pub spent_is : all_of new + spent ≡ all_of old

-- the sections and turns of a reader's seat, and of all of them
abbrev pub spent_in : Option BoardSeat → ℕ
spent_in None = 0
spent_in (Some s) = spent_by s

abbrev pub all_spent : List Reader → ℕ
all_spent readers = sum_by (λ r. spent_in r.seat) readers

-- what each reader saw is what it asked for
abbrev pub HaveSeen : List (List (List ℕ)) → List Reader → List Reader → Type 0
HaveSeen composites old new =
    map (λ r. r.seen.items) new ≡ map (map (seen_of composites)) (asked_of old)

-- a seat of the board, if there is one
abbrev pub HasOwn : Board → Option BoardSeat → Type 0
HasOwn board None = Unit {0}
HasOwn board (Some s) = IsSeatOf board s

-- a reader made all its reads
pub record HasRun (board : Board) (wholes : List (List ℕ)) (old new : Reader) : Type 0 where
  pub seen : new.seen.items ≡ map (seen_whole wholes) (asked_in old.seen.items)
  pub own : HasOwn board new.seat
  pub spent : spent_in new.seat ≡ spent_in old.seat

-- and so did each of them
pub record HaveRun (board : Board) (wholes : List (List ℕ)) (old new : List Reader) : Type 0 where
  pub seen : map (λ r. r.seen.items) new ≡ map (map (seen_whole wholes)) (asked_of old)
  pub own : All (λ r. HasOwn board r.seat) new
  pub spent : all_spent new ≡ all_spent old
