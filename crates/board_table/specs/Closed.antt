-- What a table is closed with, and what comes out.
use Rattle.std.specs.Prelude.{◌≡◌, ℕ, ◌<◌, List, length, Option, Some, None, slice_get}
use Rattle.board_table.specs.declared.views.BoardView.{BoardView}
use Rattle.board_table.specs.declared.views.Opening.{Opening}
use Rattle.board_table.specs.Names.{named}
use Rattle.board_table.specs.Views.{stake_of, spent}
use Rattle.board_table.specs.Sound.{StandsIn}

-- the view has all turns and sections of the table, so no other view is in a section
abbrev pub HasAll : {T : Type 0} → Opening T → BoardView → Type 0
HasAll o v = spent v ≡ o.turns

-- the home value of each composite that the view did not take, in order
pub record AreClosed {H T : Type 0}
    (stands : T → ℕ → H → Type 0) (o : Opening T) (v : BoardView) (homes : List (Option H)) :
    Type 0 where
  pub many : length homes ≡ o.composites
  pub left : (k : ℕ) → k < o.composites → (stake_of k v).taken ≡ 0 →
      (x : H) × (slice_get homes k ≡ Some (Some x)) × StandsIn stands (named o.origin) k x
  pub taken : (k : ℕ) → k < o.composites → 0 < (stake_of k v).taken → slice_get homes k ≡ Some None
