-- What the steps of a lane that its gate stopped come to.
use Rattle.std.proofs.Common.{◌≡◌, ℕ, ◌<◌, ◌≤◌, List, [], ◌∷◌, Bool, true, false, length, map, sym, ap, ◌∙◌, subst, arith}
use Rattle.pool_law.specs.declared.command.Command.{Command}
use Rattle.pool_law.specs.declared.run.Reply.{Reply}
use Rattle.pool_law.specs.LaneLaw.{sweep_period}
use Rattle.pool_law.specs.Patterns.{closing}
use Rattle.pool_law.specs.Readers.{ToldNotes}
use Rattle.shared_pool.specs.SeatViews.{view_of}
use Rattle.shared_pool.specs.declared.pool.SharedPool.{SharedPool}
use Rattle.shared_pool.specs.Closing.{entry_of}
use Rattle.lane_context.specs.declared.context.Context.{Context}
use Rattle.lane_context.specs.declared.context.Stage.{Stage}
use Rattle.lane_context.specs.declared.context.Stage.TheVariants.{Ready, Closing}
use Rattle.lane_context.specs.declared.context.Turn.{Turn}
use Rattle.lane_context.specs.declared.context.Turn.TheVariants.{Went, Pending, Waiting}
use Rattle.lane_stages.specs.declared.draining.DrainKind.TheVariants.{Close}
use Rattle.lane_stages.specs.declared.draining.Draining.{Draining}
use Rattle.lane_stages.specs.declared.draining.Draining.TheVariants.{Ask}
use Rattle.lane_core.specs.declared.lane.Lane.{Lane}
use Rattle.lane_stages.specs.declared.stepped.Stepped.{Stepped}
use Rattle.lane_stages.specs.declared.stepped.Stepped.TheVariants.{Went as StepWent, Pending as StepPending, Waiting as StepWaiting, Finished as StepFinished}
use Rattle.lane_stages.specs.Drainings as draining
use Rattle.seat_work.specs.Hands.{Hand, empty_hand}
use Rattle.seat_work.specs.Readings.{ReadsOn}
use Rattle.lane_stages.specs.Readings.{none_asked}
use Rattle.lane_context.specs.Contexts.{IsContext, hand_of, Fits, HasRoomFor, left_for, left_at, next_of, PassesOver, HasTurnedClosing}
use Rattle.lane_core.specs.Lanes.{Heeds, IsStoppedLane, reads_closing, SameLane, commands_left, entries_since, number_of}
use Rattle.lane_core.specs.Steps.{HasStepped, stepped_of}
use Rattle.lane_stages.proofs.ReadLaws.{on_append}
use Rattle.lane_core.proofs.LaneGrown.{lane_at, same_lane, replied_more, still_since, still_left, closed_room, room_to_begin, front_room}
use Rattle.lane_core.proofs.CloseTurns.{closing_same, closing_so, closing_next}
use Rattle.lane_core.proofs.Heeding.{heeds_still}
use Rattle.lane_core.proofs.StoppedKept.{stopped_with, still_few, still_passed, passed_on_lane}
use Rattle.lane_context.proofs.StageCases.{by_kind}
use Rattle.lane_core.proofs.StageKinds.{passes_none}

-- ---- The closing.

module _ (pool : SharedPool) (l : Lane) (lane : IsStoppedLane pool l) where
  -- how far the closing was read
  pub stopped_had : (stage : Draining) → l.stage ≡ Closing stage →
      ReadsOn (closing (number_of l)) (entries_since l) none_asked (draining.rest_of Close (number_of l) stage)
  stopped_had stage is =
      subst (λ (x : Stage). ReadsOn (closing (number_of l)) (entries_since l) none_asked
      (reads_closing (number_of l) x))
      is lane.since

  pub stopped_first : l.stage ≡ Ready →
      ReadsOn (closing (number_of l)) (entries_since l) none_asked (draining.rest_of Close (number_of l) (Ask 0))
  stopped_first is =
      subst (λ (x : Stage). ReadsOn (closing (number_of l)) (entries_since l) none_asked
      (reads_closing (number_of l) x))
      is lane.since

  -- it goes on
  pub stopped_closing : (d : Context) (n : ℕ) → n ≤ length l.commands → (stage : Draining) (turn : Turn)
      (t : HasTurnedClosing pool l.context d stage turn) → commands_left l ≡ [] →
      ReadsOn (closing (number_of l)) (entries_since l) none_asked (draining.rest_of Close (number_of l) stage)
      → HasRoomFor pool l.context (draining.left_of stage (view_of l.context.seat))
      → IsStoppedLane pool (lane_at l d (Closing t.after) n)
  stopped_closing d n few stage turn t none had room =
      let number = number_of l in let hand : Hand = draining.hand_of Close t.after in
      let x : Stage = Closing t.after in
      let none_now : commands_left (lane_at l d x n) ≡ [] =
      still_left pool l lane.context d n hand t.added t.grew t.replies t.begun x ∙ none in
      let since = still_since pool l lane.context d n hand t.added t.grew t.replies t.begun x in
      stopped_with pool l lane d n few hand t.added t.grew x t.grew.context t.fits
      (still_few pool l lane d n few hand t.added t.grew t.replies t.begun x)
      (still_passed pool l lane d n few hand t.added t.grew t.replies t.begun x) (λ u. u) (λ closes. none_now)
      (λ ready. absurd ready)
      (subst (λ (es : ToldNotes). ReadsOn (closing number) es none_asked (draining.rest_of Close number t.after))
      (sym since)
      (on_append (closing number) (draining.rest_of Close number stage) (draining.rest_of Close number t.after)
      (entries_since l) (map entry_of t.added) had t.reads))
      (closed_room pool l lane.context d n hand t.added t.grew stage t.after none_now room t.spends)

-- ---- A turn that passes a command over.

module _ (pool : SharedPool) (l : Lane) (lane : IsStoppedLane pool l) (is : l.stage ≡ Ready) (command : Command)
    (later : List Command) (left : commands_left l ≡ command ∷ later) where
  pub pass_room : HasRoomFor pool l.context (left_for l.context.composes command)
  pass_room =
      subst (λ (x : Stage). HasRoomFor pool l.context (left_at l.context.composes command x (view_of l.context.seat)))
      is
      (front_room pool l lane.room command later left)

  module _ (d : Context) (n : ℕ) (few : n ≤ length l.commands) where
    still_fits : d.asked ≡ l.context.asked → Fits pool d Ready
    still_fits same =
        let low : l.context.asked < sweep_period = subst (λ (x : Stage). Fits pool l.context x) is lane.fits in
        omega (arith, low, same)

    pub passed_lane : (turn : Turn) → PassesOver pool l.context d command turn
        → IsStoppedLane pool (lane_at l d (next_of Ready turn) n)
    passed_lane (Went next) =
        by_kind (λ x. PassesOver pool l.context d command (Went x) → IsStoppedLane pool (lane_at l d x n))
        (λ t. passed_on_lane pool l lane d n few empty_hand t.added t.grew is command later left t.grew.context
        (still_fits t.asked) t.comes t.spends)
        (λ x t. absurd t.comes) (λ x u t. absurd (passes_none l.context d t.added command x u t.comes)) next
    passed_lane (Pending held next) = λ t. absurd t.comes
    passed_lane (Waiting sender) = λ t. absurd t.comes

    pub passed_so : (turn : Turn) → PassesOver pool l.context d command turn
        → HasStepped pool l (lane_at l d (next_of Ready turn) n) (stepped_of turn)
    passed_so (Went next) =
        by_kind (λ x. PassesOver pool l.context d command (Went x) → HasStepped pool l (lane_at l d x n) StepWent)
        (λ t. replied_more pool l lane.context d n empty_hand t.added t.grew
        (record { reply = Reply.Stopped; notes = t.comes.notes }) t.comes.replies Ready)
        (λ x t. absurd t.comes) (λ x u t. absurd (passes_none l.context d t.added command x u t.comes)) next
    passed_so (Pending held next) = λ t. absurd t.comes
    passed_so (Waiting sender) = λ t. absurd t.comes

    pub passed_same : (turn : Turn) → PassesOver pool l.context d command turn
        → SameLane l (lane_at l d (next_of Ready turn) n)
    passed_same turn t = same_lane pool l lane.context d n empty_hand t.added t.grew (next_of Ready turn)

    module _ (turn : Turn) (t : PassesOver pool l.context d command turn) (new : Lane)
        (new_is : new ≡ lane_at l d (next_of Ready turn) n) where
      pub passes_lane : IsStoppedLane pool new
      passes_lane = subst (λ (x : Lane). IsStoppedLane pool x) (sym new_is) (passed_lane turn t)

      pub passes_same : SameLane l new
      passes_same = subst (λ (x : Lane). SameLane l x) (sym new_is) (passed_same turn t)

      pub passes_so : (result : Stepped) → result ≡ stepped_of turn → HasStepped pool l new result
      passes_so result so =
          subst (λ (x : Lane × Stepped). HasStepped pool l x.0 x.1) (λ i. (sym new_is i, sym so i)) (passed_so turn t)

-- a stopped lane whose commands are all answered begins its closing
module _ (pool : SharedPool) (l : Lane) (lane : IsStoppedLane pool l) (is : l.stage ≡ Ready)
    (none : commands_left l ≡ [])
  where
    pub shut_context : IsContext pool (draining.hand_of Close (Ask 0)) l.context
    shut_context = subst (λ (x : Stage). IsContext pool (hand_of x) l.context) is lane.context

    pub shut_room : HasRoomFor pool l.context (draining.left_of (Ask 0) (view_of l.context.seat))
    shut_room = room_to_begin pool l lane.room none is

    module _ (d : Context) (turn : Turn) (t : HasTurnedClosing pool l.context d (Ask 0) turn) (new : Lane)
        (new_is : new ≡ lane_at l d (next_of Ready turn) l.asked) where
      shut_is : new ≡ lane_at l d (Closing t.after) l.asked
      shut_is =
          new_is ∙ ap (λ (x : Stage). lane_at l d x l.asked) (closing_next pool l lane.context d l.asked (Ask 0) turn t)

      pub shuts_lane : IsStoppedLane pool new
      shuts_lane =
          subst (λ (x : Lane). IsStoppedLane pool x) (sym shut_is)
          (stopped_closing pool l lane d l.asked lane.asked (Ask 0) turn t none (stopped_first pool l lane is)
          shut_room)

      pub shuts_same : SameLane l new
      shuts_same =
          subst (λ (x : Lane). SameLane l x) (sym shut_is) (closing_same pool l lane.context d l.asked (Ask 0) turn t)

      pub shuts_so : (result : Stepped) → result ≡ stepped_of turn → HasStepped pool l new result
      shuts_so result so =
          subst (λ (x : Lane × Stepped). HasStepped pool l x.0 x.1) (λ i. (sym shut_is i, sym so i))
          (closing_so pool l lane.context d l.asked (Ask 0) none (stopped_first pool l lane is) turn t)

      pub shuts_heeds : (stops : ℕ → Bool) → Heeds stops l → Heeds stops new
      shuts_heeds stops h =
          subst (λ (x : Lane). Heeds stops x) (sym shut_is) (heeds_still stops l h d (Closing t.after) t.replies)

-- what a step says of a lane that was stopped just before it, it says of the lane
pub stepped_anew : (pool : SharedPool) (l new : Lane) (n : ℕ) (result : Stepped) → l.stage ≡ Ready
    → HasStepped pool (record l { asked = n; stopped = true }) new result → HasStepped pool l new result
stepped_anew pool l new n StepWent is so = record {
  replies = so.replies;
  notes = so.notes;
  replies_are = so.replies_are;
  notes_are = so.notes_are;
  some = so.some;
  one_reply = so.one_reply;
  one_step = so.one_step;
}
stepped_anew pool l new n (StepPending held) is so =
    (record { replies = so.0.replies; notes = so.0.notes }, so.1, so.2)
stepped_anew pool l new n (StepWaiting sender) is so = let never : true ≡ false = so.3 in absurd (cc never)
stepped_anew pool l new n StepFinished is so = absurd (cc (is, so.0))
