-- The seats of lanes that have finished have nothing in hand.
use Rattle.std.proofs.Common.{◌≡◌, ℕ, ◌<◌, List, sym, ap, subst, arith, Some, ◌∙◌}
use Rattle.std.specs.Prelude.{map, unwrap_or, slice_get}
use Rattle.pool_table.specs.declared.views.SeatView.{SeatView}
use Rattle.shared_pool.specs.SeatViews.{view_of}
use Rattle.shared_pool.specs.declared.pool.SharedPool.{SharedPool}
use Rattle.shared_pool.specs.Seated.{HasNothing, IsDone, AreDone}
use Rattle.shared_pool.proofs.Openings.{map_at}
use Rattle.lane_context.specs.declared.context.Stage.TheVariants.{Closing}
use Rattle.lane_stages.specs.declared.draining.Draining.TheVariants.{Done}
use Rattle.lane_core.specs.declared.lane.Lane.{Lane}
use Rattle.seat_work.specs.Hands.{IsHeld}
use Rattle.lane_context.specs.Contexts.{hand_of}
use Rattle.lane_core.specs.Played.{IsFinishedLane, AreFinished}
use Rattle.lane_core.proofs.EitherLane.{lane_context}
use Rattle.lane_core.proofs.PlayedLists.{stands-at, HoldsAt-from, length-map}

nothing-held : (v : SeatView) → IsHeld (hand_of (Closing Done)) v → HasNothing v
nothing-held v held = record {
  region = λ q has. omega (arith, held.regions q, has);
  place = λ p has. omega (arith, held.places p, has);
  token = λ root has. omega (arith, held.tokens root, has);
}

-- the lane's part has its number
pub part-number : (pool : SharedPool) (k : ℕ) (l : Lane) → IsFinishedLane pool k l
    → (view_of l.context.seat).own.number ≡ Some k
part-number pool k l f =
    let seat = (lane_context pool l f.lane).seat in
    seat.number ∙ ap Some (sym (ap (λ o. unwrap_or o 0) seat.number) ∙ f.number_is)

pub lane-done : (pool : SharedPool) (k : ℕ) (l : Lane) → IsFinishedLane pool k l → IsDone pool k l.context.seat
lane-done pool k l f = record {
  seat = (lane_context pool l f.lane).seat;
  number = part-number pool k l f;
  nothing =
      nothing-held (view_of l.context.seat)
      (subst (λ s. IsHeld (hand_of s) (view_of l.context.seat)) f.finished (lane_context pool l f.lane).held);
}

-- the lane with a number
pub lane-at : (pool : SharedPool) (lanes : List Lane) → AreFinished pool lanes → (k : ℕ)
    → k < pool.table.layout.shape.lanes →
    (l : Lane) × (slice_get lanes k ≡ Some l) × IsFinishedLane pool k l
lane-at pool lanes fin k lt = stands-at (IsFinishedLane pool k) lanes k (omega (arith, fin.many)) (fin.each k lt)

pub seats-done : (pool : SharedPool) (lanes : List Lane) → AreFinished pool lanes
    → AreDone pool (map (λ l. l.context.seat) lanes)
seats-done pool lanes fin = record {
  many = length-map (λ (l : Lane). l.context.seat) lanes ∙ fin.many;
  each = λ k lt.
      let at = lane-at pool lanes fin k lt in
      HoldsAt-from (IsDone pool k) (map (λ (l : Lane). l.context.seat) lanes) k at.0.context.seat
      (map_at (λ (l : Lane). l.context.seat) lanes k at.0 at.1) (lane-done pool k at.0 at.2);
}
