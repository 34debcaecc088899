-- When a seat may send a letter, and receive one.
use Rattle.std.specs.Prelude.{◌≡◌, ℕ, ◌+◌, ◌*◌, ◌<◌, ◌≤◌, Some, IfSome}
use Rattle.pool_law.specs.declared.id.Parcel.{Parcel}
use Rattle.pool_law.specs.declared.note.Did.TheVariants.{Post}
use Rattle.pool_law.specs.declared.run.Shape.{Shape}
use Rattle.pool_table.specs.declared.views.Letter.{Letter}
use Rattle.pool_table.specs.declared.views.SeatView.{SeatView}
use Rattle.pool_table.specs.Capacities.{knows_of}
use Rattle.pool_table.specs.Counts.{HasCount}
use Rattle.pool_table.specs.Hands.{PutsDown}
use Rattle.pool_table.specs.Letters.{letter_view, sent_on, received_on}

-- the view is a lane's, counts the parcel's root if there is one, knows of the capacity that the
-- parcel's view reaches up to, and sent fewer than 2 ^ 62 letters that way
pub record MaySend (s : Shape) (v : SeatView) (to : ℕ) (parcel : Parcel) : Type 0 where
  pub lane : ℕ
  pub number : v.own.number ≡ Some lane
  pub receiver : to < s.lanes
  pub counts : PutsDown v (Post parcel)
  pub reaches : IfSome parcel.view (λ w. w.offset + w.len ≤ knows_of w.root v)
  pub few : sent_on lane to v.own.notes < 4611686018427387904

-- the view counts the parcel's root, if there is one, at one of the shape's places
abbrev pub HoldsParcel : Shape → Parcel → SeatView → Type 0
HoldsParcel s parcel v =
    IfSome parcel.view (λ w. HasCount w.root v × (w.root.place < s.lanes * s.handles))

-- the other view has exactly one letter and no part, and the letter is the next one of its way to
-- the view's lane
pub record MayReceive (v w : SeatView) : Type 0 where
  pub letter : Letter
  pub alone : w ≡ letter_view w.setting letter
  pub lane : v.own.number ≡ Some letter.to
  pub next : letter.number
      ≡ received_on letter.from letter.to v.own.notes + 1
