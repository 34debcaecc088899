use Rattle.std.proofs.Common.{◌≡◌, [], refl, sym, ap, ◌∙◌, subst}
use Rattle.pool_law.specs.Patterns.{closing}
use Rattle.shared_pool.specs.SeatViews.{view_of}
use Rattle.lane_stages.specs.declared.draining.DrainKind.TheVariants.{Close}
use Rattle.lane_context.specs.declared.context.Stage.{Stage}
use Rattle.lane_context.specs.declared.context.Stage.TheVariants.{Closing}
use Rattle.lane_core.specs.declared.lane.Lane.{Lane}
use Rattle.lane_stages.specs.declared.stepped.Stepped.{Stepped}
use Rattle.lane_stages.specs.Drainings as draining
use Rattle.lane_context.specs.Contexts.{HasRoomFor}
use Rattle.seat_work.specs.Readings.{ReadsOn}
use Rattle.lane_stages.specs.Readings.{none_asked}
use Rattle.lane_core.specs.Lanes.{Heeds, IsLane, SameLane, commands_left, entries_since, number_of}
use Rattle.lane_core.specs.Steps.{HasStepped, at_stage, stepped_of}
use Rattle.lane_core.proofs.CloseTurns.{closing_same, closing_so, closing_next}
use Rattle.lane_core.proofs.EitherLane.{stopped_is, running_is, lane_or, lane_context}
use Rattle.lane_core.proofs.Heeding.{heeds_still}
use Rattle.lane_core.proofs.LaneGrown.{lane_at, room_to_close}
use Rattle.lane_core.proofs.LaneCloses.{close_none, close_had, close_room, closing_lane}
use Rattle.lane_core.proofs.StoppedTurns.{stopped_had, stopped_closing}
use Rattle.lane_core.proofs.lane.Lane.close.Goals as goal

pub close-turn-requires : goal.close-turn-requires
close-turn-requires c =
    let pool = c.args.pool.now in let stage = c.args.stage in let l : Lane = at_stage c.args.self.now (Closing stage) in
    let lane = c.requires.lane in
    record {
      context = lane_context pool l lane;
      fits = lane_or pool l (draining.Fits pool l.context.seat stage) lane (λ s. s.fits) (λ r. r.fits);
      room =
          lane_or pool l (HasRoomFor pool l.context (draining.left_of stage (view_of l.context.seat))) lane
          (λ s. room_to_close pool l s.room (s.all_answered tt) stage refl) (λ r. close_room pool l r stage refl);
      more = c.in_default.not-Done;
    }

pub returns-in_default : goal.returns-in_default
returns-in_default c =
    let pool = c.args.pool.now in let stage = c.args.stage in let l : Lane = at_stage c.args.self.now (Closing stage) in
    let lane = c.requires.lane in let context = lane_context pool l lane in
    let d = c.close-turn.new.self in let turn = c.close-turn.result in let t = c.close-turn.ensures in
    let n = l.asked in let next : Lane = lane_at l d (Closing t.after) n in
    let is : c.after.new.self ≡ next = c.after.ensures.next
    ∙ ap (λ (x : Stage). lane_at l d x n) (closing_next pool l context d n stage turn t) in
    record {
      lane =
          subst (λ (x : Lane). IsLane pool x) (sym is)
          (lane_or pool l (IsLane pool next) lane
          (λ s. stopped_is pool next
          (stopped_closing pool l s d n s.asked stage turn t (s.all_answered tt) (stopped_had pool l s stage refl)
          (room_to_close pool l s.room (s.all_answered tt) stage refl)))
          (λ r. running_is pool next
          (closing_lane pool l r d n r.asked stage turn t (close_none pool l r stage refl)
          (close_had pool l r stage refl) (close_room pool l r stage refl))));
      same = subst (λ (x : Lane). SameLane l x) (sym is) (closing_same pool l context d n stage turn t);
      stepped =
          subst (λ (x : Stepped). HasStepped pool l c.after.new.self x) (sym c.after.ensures.stepped)
          (subst (λ (x : Lane). HasStepped pool l x (stepped_of turn)) (sym is)
          (closing_so pool l context d n stage
          (lane_or pool l (commands_left l ≡ []) lane (λ s. s.all_answered tt) (λ r. close_none pool l r stage refl))
          (lane_or pool l (ReadsOn (closing (number_of l)) (entries_since l) none_asked
          (draining.rest_of Close (number_of l) stage)) lane (λ s. stopped_had pool l s stage refl)
          (λ r. close_had pool l r stage refl)) turn t));
      finished = λ done. absurd (c.in_default.not-Done done);
      heeds = λ stops h. subst (λ (x : Lane). Heeds stops x) (sym is)
          (heeds_still stops l h d (Closing t.after) t.replies);
    }
