-- What a step of the closing says, whether the lane's gate stopped it or not.
use Rattle.std.proofs.Common.{◌≡◌, ℕ, List, [], ◌++◌, sym, ap, ◌∙◌, subst}
use Rattle.std.specs.Prelude.{IsSome}
use Rattle.pool_law.specs.declared.command.Command.{Command}
use Rattle.pool_law.specs.declared.note.Object.{Object}
use Rattle.pool_law.specs.LaneStates.{log_at, new_lane}
use Rattle.pool_law.specs.Patterns.{closing}
use Rattle.pool_law.specs.Readers.{ToldNotes}
use Rattle.shared_pool.specs.declared.pool.SharedPool.{SharedPool}
use Rattle.lane_context.specs.declared.context.Context.{Context}
use Rattle.lane_context.specs.declared.context.Stage.TheVariants.{Ready, Closing}
use Rattle.lane_context.specs.declared.context.Turn.{Turn}
use Rattle.lane_context.specs.declared.context.Turn.TheVariants.{Went, Pending, Waiting}
use Rattle.lane_stages.specs.declared.draining.DrainKind.TheVariants.{Close}
use Rattle.lane_stages.specs.declared.draining.Draining.{Draining}
use Rattle.lane_core.specs.declared.lane.Lane.{Lane}
use Rattle.lane_stages.specs.declared.stepped.Stepped.TheVariants.{Went as StepWent, Pending as StepPending}
use Rattle.lane_stages.specs.Drainings as draining
use Rattle.lane_context.specs.Contexts.{IsContext, hand_of, next_of, HasTurnedClosing}
use Rattle.lane_context.proofs.StageCases.{by_kind}
use Rattle.lane_core.proofs.StageKinds.{closes_held, closes_none}
use Rattle.lane_stages.specs.NextNotes.{BeginsAt}
use Rattle.seat_work.specs.Readings.{ReadsOn, behind}
use Rattle.lane_stages.specs.Readings.{none_asked}
use Rattle.lane_core.specs.Lanes.{SameLane, commands_left, entries_since, number_of}
use Rattle.lane_core.specs.Steps.{HasStepped, IsReadOn, IsStateBehind, NextStandsAt, stepped_of}
use Rattle.lane_core.proofs.StageWays.{drain_from}
use Rattle.lane_context.proofs.Ways.{way_read}
use Rattle.lane_core.proofs.LaneGrown.{lane_at, same_lane, same_log, noted_more}

module _ (pool : SharedPool) (l : Lane) (was : IsContext pool (hand_of l.stage) l.context) (d : Context) (n : ℕ)
    (stage : Draining) where
  pub closing_same : (turn : Turn) (t : HasTurnedClosing pool l.context d stage turn)
      → SameLane l (lane_at l d (Closing t.after) n)
  closing_same turn t = same_lane pool l was d n (draining.hand_of Close t.after) t.added t.grew (Closing t.after)

  -- how the law reads the closing from the stage on
  abbrev Had : Type 0
  Had =
      ReadsOn (closing (number_of l)) (entries_since l) none_asked
      (draining.rest_of Close (number_of l) stage)

  -- where that is read as a note there, the next note stands there
  stands_there : commands_left l ≡ [] → Had → (o : Object)
      → BeginsAt o (draining.rest_of Close (number_of l) stage) → NextStandsAt l o
  stands_there none had o begins = (
    (
      way.0,
      (
        new_lane,
        subst (λ (cs : List Command). IsStateBehind l new_lane cs) (sym none) tt,
        subst (λ (cs : List Command). IsReadOn l.context.shape (number_of l) new_lane cs (entries_since l ++ way.0))
            (sym none) (subst (λ x. IsSome x) (sym (had (log_at new_lane way.0))) way.1),
      ),
    ),
    λ more follow.
        begins (behind (log_at follow.0 more) (entries_since l) none_asked)
        (subst (λ x. IsSome x) (had (log_at follow.0 more))
        (subst (λ (cs : List Command). IsReadOn l.context.shape (number_of l) follow.0 cs (entries_since l ++ more))
        none follow.2)),
  )
    where
      -- entries that are read from the stage on
      way : (later : ToldNotes) × IsSome (draining.rest_of Close (number_of l) stage
          (behind (log_at new_lane later) (entries_since l) none_asked))
      way = way_read (draining.rest_of Close (number_of l) stage) (drain_from Close (number_of l) stage)
          (entries_since l) 0

  pub closing_so : commands_left l ≡ [] → Had → (turn : Turn) (t : HasTurnedClosing pool l.context d stage turn)
      → HasStepped pool l (lane_at l d (Closing t.after) n) (stepped_of turn)
  closing_so none had (Went next) =
      by_kind
      (λ x. (t : HasTurnedClosing pool l.context d stage (Went x))
      → HasStepped pool l (lane_at l d (Closing t.after) n) StepWent)
      (λ t. absurd t.comes)
      (λ x t. noted_more pool l was d n (draining.hand_of Close t.after) t.added t.grew t.comes.1 t.replies
      (Closing t.after))
      (λ x u t. absurd (closes_none stage t.after t.added x u t.comes)) next
  closing_so none had (Pending held next) =
      by_kind
      (λ x. (t : HasTurnedClosing pool l.context d stage (Pending held x))
      → HasStepped pool l (lane_at l d (Closing t.after) n) (StepPending held))
      (λ t. absurd t.comes)
      (λ x t. (
        same_log pool l was d n (draining.hand_of Close t.after) t.added t.grew t.comes.2 t.replies
            (Closing t.after),
        t.held.0,
        stands_there none had held.object t.held.1,
      ))
      (λ x u t. absurd (closes_held stage t.after t.added held x u t.comes)) next
  closing_so none had (Waiting sender) = λ t. absurd t.comes

  pub closing_next : (turn : Turn) (t : HasTurnedClosing pool l.context d stage turn)
      → next_of Ready turn ≡ Closing t.after
  closing_next (Went next) =
      by_kind (λ x. (t : HasTurnedClosing pool l.context d stage (Went x)) → x ≡ Closing t.after) (λ t. absurd t.comes)
      (λ x t. ap (λ (y : Draining). Closing y) (sym t.comes.0))
      (λ x u t. absurd (closes_none stage t.after t.added x u t.comes)) next
  closing_next (Pending held next) =
      by_kind (λ x. (t : HasTurnedClosing pool l.context d stage (Pending held x)) → x ≡ Closing t.after)
      (λ t. absurd t.comes) (λ x t. ap (λ (y : Draining). Closing y) (t.comes.0 ∙ sym t.comes.1))
      (λ x u t. absurd (closes_held stage t.after t.added held x u t.comes)) next
  closing_next (Waiting sender) = λ t. absurd t.comes
