-- What each kind of step tells its seat.
use Rattle.std.specs.Prelude.{◌≡◌, ◌≢◌, ℕ, ◌+◌, ◌*◌, ◌/◌, ◌%◌, ◌≤◌, [], ◌∷◌, Option, Some, None, IfSome}
use Rattle.atomic_table.specs.Table.{State, Me, Step, rest}
use Rattle.board_table.specs.declared.views.Inside.{Inside}
use Rattle.board_table.specs.declared.views.BoardView.{BoardView}
use Rattle.board_table.specs.Views.{stake_of, entered, retained, released, ended, done, took}
use Rattle.board_table.specs.Sound.{WasFree, WasHeld, WasCounted}

-- what a step tells: the step, what the seat had, the word that was found, what the seat has then
abbrev pub StepRelation : Type 0 → Type 1
StepRelation H = Step (Option H) → Me (Option H) BoardView → ℕ → Me (Option H) BoardView → Type 0

module _ {H : Type 0} where
  -- the seat got into the section of composite k, which it counts or has the mark of: it knows how many
  -- were made before, and holds the home value
  pub record GetsIn
      (holds : State (Option H) BoardView → Type 0) (Fits : H → ℕ → Type 0) (k : ℕ) (me : Me (Option H) BoardView) (found : ℕ)
      (after : Me (Option H) BoardView) : Type 0 where
    pub number : ℕ
    pub turns : ℕ
    pub home : H
    pub found_is : found ≡ 2 * number
    pub is : after ≡ (entered k number turns me.0, (k, Some home) ∷ me.1)
    pub fits : Fits home turns
    pub own : me.0.turns ≤ turns
    pub was_free : WasFree holds k number home me.0

  abbrev pub claims :
      (State (Option H) BoardView → Type 0) → (H → ℕ → Type 0) → ℕ → StepRelation H
  claims holds Fits k s me found after =
      (found % 2 ≡ 0 → GetsIn holds Fits k me found after)
      × (found % 2 ≡ 1 → (after ≡ me) × ((stake_of k me.0).marks ≡ 0)
      × WasHeld holds k (found / 2) me.0)

  -- a section ends, with the core at home again
  abbrev pub dones : StepRelation H
  dones s me found after =
      IfSome me.0.inside (λ (x : Inside).
      (found ≡ 2 * x.number + 1) × (after ≡ (done x.composite me.0, rest me.1)))

  -- and where it was taken
  abbrev pub takes : StepRelation H
  takes s me found after =
      IfSome me.0.inside (λ (x : Inside). after ≡ (took x.composite me.0, rest me.1))

  abbrev pub retains : ℕ → StepRelation H
  retains k s me found after = after ≡ (retained k me.0, me.1)

  -- the release that found the count 1 ends the composite
  abbrev pub releases : (State (Option H) BoardView → Type 0) → ℕ → StepRelation H
  releases holds k s me found after =
      WasCounted holds k found me.0
      × (found ≡ 1 → after ≡ (ended k me.0, me.1))
      × (found ≢ 1 → after ≡ (released k me.0, me.1))

  -- a seat in no section, which holds no home value
  abbrev pub IsFree : Me (Option H) BoardView → Type 0
  IsFree me = (me.0.inside ≡ None) × (me.1 ≡ [])
