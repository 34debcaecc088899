-- The close of a pool of one seat.
use Rattle.std.proofs.Common.{◌≡◌, ℕ, zero, suc, ◌<◌, [], ◌∷◌, sym, ap, ◌∙◌, arith, Some}
use Rattle.std.specs.Prelude.{HoldsAt}
use Rattle.pool_law.specs.declared.run.Shape.{Shape}
use Rattle.shared_pool.specs.declared.seat.PoolSeat.{PoolSeat}
use Rattle.pool_table.specs.declared.views.Layout.{Layout}
use Rattle.shared_pool.specs.SeatViews.{view_of}
use Rattle.shared_pool.specs.declared.pool.SharedPool.{SharedPool}
use Rattle.shared_pool.specs.Closing.{AreWhole}
use Rattle.shared_pool.specs.Seated.{IsDone, AreDone, parts_in}
use Rattle.seat_work.specs.Hands.{empty_hand}
use Rattle.seat_work.specs.Works.{Works}
use Rattle.seat_work.proofs.FirstSeats.{has_nothing}
use Rattle.nest_run.specs.declared.calls.Input.{Input}
use Rattle.nest_run.specs.declared.openings.TheConstants.{LAYOUT}
use Rattle.nest_run.specs.declared.play.Played.{Played}
use Rattle.nest_run.specs.Plays.{replies_to, live_after}
use Rattle.nest_run.specs.Standing.{log_of, IsWhole, HasPlayed}
use Rattle.nest_run.proofs.OneLane.{closed_whole}

module _ (pool : SharedPool) (layout : pool.layout ≡ LAYOUT) (seat : PoolSeat) where
  lanes : pool.table.layout.shape.lanes ≡ 1
  lanes = ap (λ (l : Layout). l.shape.lanes) (pool.same_layout ∙ layout)

  -- a seat with nothing in hand is all that a pool of one lane needs
  pub one_done : Works pool empty_hand 0 0 seat → AreDone pool (seat ∷ [])
  one_done works = record { many = sym lanes; each = each }
    where
      first : works.seat.lane ≡ 0
      first = (let a = works.seat.below in let b = lanes in omega (arith, a, b))

      each : (lane : ℕ) → lane < pool.table.layout.shape.lanes → HoldsAt (IsDone pool lane) (seat ∷ []) lane
      each zero lt d = record {
        seat = works.seat;
        number = works.seat.number ∙ ap Some first;
        nothing = has_nothing (view_of seat) works.held;
      }
      each (suc lane) lt d = absurd (let b = lanes in omega (arith, lt, b))

-- what the close tells of all notes says that all was right
pub closed_right : (pool : SharedPool) (shape : Shape) (input : Input) (played : Played)
    (seat : PoolSeat) → HasPlayed pool input played seat → AreWhole shape (parts_in (seat ∷ []))
    → played ≡ record { replies = replies_to input; live = live_after input }
closed_right pool shape input played seat has whole =
    let w : IsWhole (log_of seat) = closed_whole shape (view_of seat).own whole in
    (λ i. record { replies = has.replies w i; live = has.live w i })
