-- What a release came to.
use Rattle.std.specs.Prelude.{◌≡◌, ◌≢◌, ℕ, Option}
use Rattle.atomic_table.specs.Table.{State}
use Rattle.board_table.specs.declared.counts.Let.{Let}
use Rattle.board_table.specs.declared.counts.Let.TheVariants.{Kept, Ended}
use Rattle.board_table.specs.declared.views.BoardView.{BoardView}
use Rattle.board_table.specs.Views.{released, ended}
use Rattle.board_table.specs.Sound.{WasCounted}

-- where the word was n the seat has this then: by the last count it has the end mark
abbrev pub IsLetAs : Let → ℕ → ℕ → BoardView → BoardView → Type 0
IsLetAs Kept k n v w = (n ≢ 1) × (w ≡ released k v)
IsLetAs (Ended mark) k n v w = (n ≡ 1) × (mark.composite ≡ k) × (w ≡ ended k v)

-- the word of the count was found at one moment, and the answer is by that
pub record IsReleased
    {H : Type 0} (holds : State (Option H) BoardView → Type 0) (result : Let) (k : ℕ)
    (v w : BoardView) : Type 0 where
  pub found : ℕ
  pub counted : WasCounted holds k found v
  pub answer : IsLetAs result k found v w
