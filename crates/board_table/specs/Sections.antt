-- What a contract says of a section.
use Rattle.std.specs.Prelude.{◌≡◌, ℕ, ◌-◌, ◌≤◌, [], ◌∷◌, Option, Some, None}
use Rattle.atomic_table.specs.Table.{State}
use Rattle.board_table.specs.declared.views.BoardView.{BoardView}
use Rattle.board_table.specs.declared.views.Opening.{Opening}
use Rattle.board_table.specs.declared.table.BoardSeat.{BoardSeat}
use Rattle.board_table.specs.declared.table.Section.{Section}
use Rattle.board_table.specs.Names.{named}
use Rattle.board_table.specs.Views.{entered}
use Rattle.board_table.specs.Sound.{IsSound, StandsIn, WasFree, WasHeld, reserve}
use Rattle.board_table.specs.Seats.{view_of, HasView, MayEnter}

module _ {H : Type 0} where
  module _ {T : Type 0} (stands : T → ℕ → H → Type 0) (left : H → ℕ) (o : Opening T) where
    -- the home value stands for the composite, and its seat has the turns that are kept for it
    pub record StandsFor (k turns : ℕ) (home : H) : Type 0 where
      pub stands_for : StandsIn stands (named o.origin) k home
      pub reserved : reserve turns ≤ left home

    -- the seat got into the section of composite k
    pub record GotSection (k : ℕ) (old new : BoardSeat H) (section : Section H) : Type 0 where
      pub number : ℕ
      pub turns : ℕ
      pub composite : section.composite ≡ k
      pub holds : new.seat.me.1 ≡ (k, None) ∷ []
      pub view : view_of new ≡ entered k number turns (view_of old)
      pub home : StandsFor k turns section.home
      -- its own turns are some of them
      pub own : (view_of old).turns ≤ turns
      pub was_free : WasFree (IsSound stands left o) k number section.home (view_of old)

    -- a view is in the section of composite k, which may end: the home value stands for the composite, and
    -- has turns for all but this one
    pub record EndsAt (k : ℕ) (home : H) (v : BoardView) : Type 0 where
      pub number : ℕ
      pub turns : ℕ
      pub inside : v.inside ≡ Some (record { composite = k; number = number; turns = turns })
      pub stands_for : StandsFor k (turns - 1) home
      pub enters : MayEnter k v

    -- the seat is in the section, with the home value out of its slot, and the section may end
    pub record MayEnd (seat : BoardSeat H) (section : Section H) : Type 0 where
      pub ends : EndsAt section.composite section.home (view_of seat)
      pub holds : seat.seat.me.1 ≡ (section.composite, None) ∷ []

-- another seat was in the section of composite k at this one step, after n sections, and nothing
-- changed
pub record FoundHeld
    {H : Type 0} (holds : State (Option H) BoardView → Type 0) (k n : ℕ)
    (old new : BoardSeat H) : Type 0 where
  pub unchanged : HasView new (view_of old)
  pub was_held : WasHeld holds k n (view_of old)
