-- A lane behind a turn of its closing.
use Rattle.std.proofs.Common.{◌≡◌, ℕ, ◌≤◌, List, [], Bool, length, sym, ap, ◌∙◌, subst}
use Rattle.pool_law.specs.declared.command.Command.{Command}
use Rattle.pool_law.specs.LaneStates.{LaneState}
use Rattle.pool_law.specs.Names.{Names}
use Rattle.pool_law.specs.Patterns.{closing}
use Rattle.pool_law.specs.Readers.{ToldNotes}
use Rattle.shared_pool.specs.SeatViews.{view_of}
use Rattle.shared_pool.specs.declared.pool.SharedPool.{SharedPool}
use Rattle.lane_context.specs.declared.context.Context.{Context}
use Rattle.lane_context.specs.declared.context.Stage.{Stage}
use Rattle.lane_context.specs.declared.context.Stage.TheVariants.{Ready, Closing}
use Rattle.lane_context.specs.declared.context.Turn.{Turn}
use Rattle.lane_stages.specs.declared.draining.DrainKind.TheVariants.{Close}
use Rattle.lane_stages.specs.declared.draining.Draining.{Draining}
use Rattle.lane_stages.specs.declared.draining.Draining.TheVariants.{Ask}
use Rattle.lane_core.specs.declared.lane.Lane.{Lane}
use Rattle.lane_stages.specs.declared.stepped.Stepped.{Stepped}
use Rattle.lane_stages.specs.Drainings as draining
use Rattle.seat_work.specs.Readings.{ReadsOn, behind}
use Rattle.lane_stages.specs.Readings.{none_asked}
use Rattle.lane_context.specs.Contexts.{IsContext, hand_of, HasRoomFor, next_of, HasTurnedClosing}
use Rattle.lane_core.specs.Lanes.{Heeds, IsRunningLane, reads_closing, IsClosing, IsBegun, SameLane, commands_left, entries_since, number_of}
use Rattle.lane_core.specs.Steps.{HasStepped, stepped_of}
use Rattle.lane_core.proofs.LaneGrown.{lane_at, room_to_close, room_to_begin}
use Rattle.lane_core.proofs.Heeding.{heeds_still}
use Rattle.lane_core.proofs.CloseTurns.{closing_same, closing_so, closing_next}
use Rattle.lane_core.proofs.LaneKept.{closed_lane}

-- how far the closing was read
begun_at : (l : Lane) (s : LaneState) (names : Names) (stage : Draining) (es : ToldNotes) → l.stage ≡ Closing stage
    → IsBegun l s names [] es → ReadsOn (closing (number_of l)) es none_asked
    (draining.rest_of Close (number_of l) stage)
begun_at l s names stage es is begun log =
    begun log ∙ ap (λ (x : Stage). reads_closing (number_of l) x (behind log es none_asked)) is

begun_first : (l : Lane) (s : LaneState) (names : Names) (es : ToldNotes) → l.stage ≡ Ready → IsBegun l s names [] es
    → ReadsOn (closing (number_of l)) es none_asked (draining.rest_of Close (number_of l) (Ask 0))
begun_first l s names es is begun log =
    begun log ∙ ap (λ (x : Stage). reads_closing (number_of l) x (behind log es none_asked)) is

module _ (pool : SharedPool) (l : Lane) (lane : IsRunningLane pool l) where
  -- a lane at a stage of the closing
  module _ (stage : Draining) (is : l.stage ≡ Closing stage) where
    pub close_none : commands_left l ≡ []
    close_none = lane.all_answered (subst IsClosing (sym is) tt)

    pub close_had : ReadsOn (closing (number_of l)) (entries_since l) none_asked
        (draining.rest_of Close (number_of l) stage)
    close_had =
        begun_at l lane.state lane.bound stage (entries_since l) is
        (subst (λ (cs : List Command). IsBegun l lane.state lane.bound cs (entries_since l)) close_none lane.begun)

    pub close_room : HasRoomFor pool l.context (draining.left_of stage (view_of l.context.seat))
    close_room = room_to_close pool l lane.room close_none stage is

  -- a lane whose commands are all answered
  module _ (is : l.stage ≡ Ready) (none : commands_left l ≡ []) where
    pub first_context : IsContext pool (draining.hand_of Close (Ask 0)) l.context
    first_context = subst (λ (x : Stage). IsContext pool (hand_of x) l.context) is lane.context

    pub first_had : ReadsOn (closing (number_of l)) (entries_since l) none_asked
        (draining.rest_of Close (number_of l) (Ask 0))
    first_had =
        begun_first l lane.state lane.bound (entries_since l) is
        (subst (λ (cs : List Command). IsBegun l lane.state lane.bound cs (entries_since l)) none lane.begun)

    pub first_room : HasRoomFor pool l.context (draining.left_of (Ask 0) (view_of l.context.seat))
    first_room = room_to_begin pool l lane.room none is

  module _ (d : Context) (n : ℕ) (few_asked : n ≤ length l.commands) (stage : Draining) (turn : Turn)
      (t : HasTurnedClosing pool l.context d stage turn) where
    pub closing_lane : commands_left l ≡ [] → ReadsOn (closing (number_of l)) (entries_since l) none_asked
        (draining.rest_of Close (number_of l) stage)
        → HasRoomFor pool l.context (draining.left_of stage (view_of l.context.seat))
        → IsRunningLane pool (lane_at l d (Closing t.after) n)
    closing_lane none had room =
        closed_lane pool l lane d n few_asked (draining.hand_of Close t.after) t.added t.grew t.replies t.names t.begun
        stage t.after none had room t.grew.context t.fits t.spends t.reads

-- a lane whose commands are all answered begins its closing
module _ (pool : SharedPool) (l : Lane) (lane : IsRunningLane pool l) (is : l.stage ≡ Ready)
    (none : commands_left l ≡ [])
    (d : Context) (turn : Turn) (t : HasTurnedClosing pool l.context d (Ask 0) turn) (new : Lane)
    (new_is : new ≡ lane_at l d (next_of Ready turn) l.asked) where
  at_closing : new ≡ lane_at l d (Closing t.after) l.asked
  at_closing =
      new_is ∙ ap (λ (x : Stage). lane_at l d x l.asked) (closing_next pool l lane.context d l.asked (Ask 0) turn t)

  pub closes_lane : IsRunningLane pool new
  closes_lane =
      subst (λ (x : Lane). IsRunningLane pool x) (sym at_closing)
      (closing_lane pool l lane d l.asked lane.asked (Ask 0) turn t none (first_had pool l lane is none)
      (first_room pool l lane is none))

  pub closes_same : SameLane l new
  closes_same =
      subst (λ (x : Lane). SameLane l x) (sym at_closing) (closing_same pool l lane.context d l.asked (Ask 0) turn t)

  pub closes_so : (result : Stepped) → result ≡ stepped_of turn → HasStepped pool l new result
  closes_so result so =
      subst (λ (x : Lane × Stepped). HasStepped pool l x.0 x.1) (λ i. (sym at_closing i, sym so i))
      (closing_so pool l lane.context d l.asked (Ask 0) none (first_had pool l lane is none) turn t)

  pub closes_heeds : (stops : ℕ → Bool) → Heeds stops l → Heeds stops new
  closes_heeds stops h =
      subst (λ (x : Lane). Heeds stops x) (sym at_closing) (heeds_still stops l h d (Closing t.after) t.replies)
