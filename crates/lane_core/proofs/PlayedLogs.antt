-- The parts of the seats of finished lanes are the lanes' logs.
use Rattle.std.proofs.Common.{◌≡◌, ℕ, List, length, sym, ap, subst, arith, Some, ◌∙◌}
use Rattle.std.specs.Prelude.{map, slice_get}
use Rattle.pool_law.specs.declared.run.Run.{Run}
use Rattle.pool_law.specs.declared.run.Shape.{Shape}
use Rattle.pool_law.specs.Legal.{logs_of, replies_of}
use Rattle.pool_law.specs.Logs.{of_lane}
use Rattle.pool_law.proofs.ListLemmas.{slice_get-below}
use Rattle.pool_table.specs.declared.views.Part.{Part}
use Rattle.shared_pool.specs.SeatViews.{view_of}
use Rattle.shared_pool.specs.declared.pool.SharedPool.{SharedPool}
use Rattle.shared_pool.specs.Closing.{logs_in, entries_in, note_of, entry_of}
use Rattle.shared_pool.specs.Seated.{parts_in}
use Rattle.lane_core.specs.declared.lane.Lane.{Lane}
use Rattle.lane_context.specs.Contexts.{entries_of}
use Rattle.lane_core.specs.Played.{IsFinishedLane, AreFinished, IsRunOf, log_written}
use Rattle.lane_core.proofs.EitherLane.{lane_context}
use Rattle.lane_core.proofs.PlayedLists.{length-map, map-map, map-same, log-at}
use Rattle.lane_core.proofs.PlayedSeats.{lane-at}

-- the parts of the lanes' seats
abbrev pub own_part : Lane → Part
own_part l = (view_of l.context.seat).own

abbrev pub parts_of_lanes : List Lane → List Part
parts_of_lanes lanes = parts_in (map (λ l. l.context.seat) lanes)

pub parts-are : (lanes : List Lane) → parts_of_lanes lanes ≡ map own_part lanes
parts-are lanes = map-map (λ s. (view_of s).own) (λ (l : Lane). l.context.seat) lanes

module _ (pool : SharedPool) (lanes : List Lane) (fin : AreFinished pool lanes) where
  -- a lane that stands in the list has finished
  pub finished-at : (k : ℕ) (l : Lane) → slice_get lanes k ≡ Some l → IsFinishedLane pool k l
  finished-at k l e =
      let at = lane-at pool lanes fin k (omega (arith, slice_get-below lanes k l e, fin.many)) in
      let same : at.0 ≡ l = cc (at.1, e) in
      subst (IsFinishedLane pool k) same at.2

  pub notes-are : logs_in (parts_of_lanes lanes) ≡ map (λ l. l.context.notes.items) lanes
  notes-are =
      ap logs_in (parts-are lanes) ∙ map-map (λ (p : Part). map note_of p.notes) own_part lanes
      ∙ map-same (λ (l : Lane). map note_of (own_part l).notes) (λ l. l.context.notes.items) lanes
      (λ k l e. sym (lane_context pool l (finished-at k l e).lane).log)

  pub logs-are : (shape : Shape) (run : Run) → IsRunOf shape lanes run → logs_in (parts_of_lanes lanes) ≡ logs_of run
  logs-are shape run of =
      notes-are ∙ sym (map-map (λ l. l.notes) log_written lanes) ∙ sym (ap (map (λ l. l.notes)) of.logs)

pub parts-length : (lanes : List Lane) → length (parts_of_lanes lanes) ≡ length lanes
parts-length lanes = ap length (parts-are lanes) ∙ length-map own_part lanes

-- the entries of a lane
pub entries-at : (lanes : List Lane) (k : ℕ) (l : Lane) → slice_get lanes k ≡ Some l
    → of_lane (entries_in (parts_of_lanes lanes)) k ≡ entries_of l.context
entries-at lanes k l e =
    ap (λ ps. of_lane (entries_in ps) k) (parts-are lanes)
    ∙ ap (λ es. of_lane es k) (map-map (λ (p : Part). map entry_of p.notes) own_part lanes)
    ∙ log-at (λ (l : Lane). map entry_of (own_part l).notes) lanes k l e

-- the replies of a lane
pub replies-at : (shape : Shape) (lanes : List Lane) (run : Run) → IsRunOf shape lanes run → (k : ℕ) (l : Lane)
    → slice_get lanes k ≡ Some l → replies_of run k ≡ l.context.replies.items
replies-at shape lanes run of k l e =
    ap (λ ls. of_lane (map (λ l. l.replies) ls) k) of.logs
    ∙ ap (λ rs. of_lane rs k) (map-map (λ l. l.replies) log_written lanes)
    ∙ log-at (λ (l : Lane). l.context.replies.items) lanes k l e
