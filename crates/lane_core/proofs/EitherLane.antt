-- A lane is one that its gate stopped, or a running one.
use Rattle.std.proofs.Common.{◌≡◌, ℕ, Bool, true, false, sym, ap, subst, arith}
use Rattle.std.specs.Prelude.{MatchBool}
use Rattle.pool_law.specs.declared.run.Shape.{Shape}
use Rattle.pool_law.specs.Legal.{AreCommands}
use Rattle.shared_pool.specs.declared.pool.SharedPool.{SharedPool}
use Rattle.lane_core.specs.declared.lane.Lane.{Lane}
use Rattle.lane_context.specs.Contexts.{IsContext, hand_of}
use Rattle.lane_core.specs.Played.{HasSpare}
use Rattle.lane_core.specs.Lanes.{IsLane, IsRunningLane, IsStoppedLane}

module _ (pool : SharedPool) (l : Lane) where
  pub stopped_is : IsStoppedLane pool l → IsLane pool l
  stopped_is lane =
      subst (λ (b : Bool). MatchBool b (IsStoppedLane pool l) (IsRunningLane pool l)) (sym lane.over) lane

  pub running_is : IsRunningLane pool l → IsLane pool l
  running_is lane =
      subst (λ (b : Bool). MatchBool b (IsStoppedLane pool l) (IsRunningLane pool l)) (sym lane.going) lane

  -- what holds of both holds of a lane
  pub lane_or : (P : Type 0) → IsLane pool l → (IsStoppedLane pool l → P) → (IsRunningLane pool l → P) → P
  lane_or P lane stopped running = by l.stopped lane
    where
      by : (b : Bool) → MatchBool b (IsStoppedLane pool l) (IsRunningLane pool l) → P
      by true is = stopped is
      by false is = running is

  pub lane_context : IsLane pool l → IsContext pool (hand_of l.stage) l.context
  lane_context lane = lane_or (IsContext pool (hand_of l.stage) l.context) lane (λ s. s.context) (λ r. r.context)

  pub lane_commands : IsLane pool l → AreCommands l.context.shape l.commands
  lane_commands lane = lane_or (AreCommands l.context.shape l.commands) lane (λ s. s.commands) (λ r. r.commands)

  -- it keeps room for the seats of as many lanes as its pool has
  pub lane_spare : (n : ℕ) → IsLane pool l → n ≡ pool.table.layout.shape.lanes → HasSpare n l
  lane_spare n lane many =
      let room = lane_or (HasSpare l.context.shape.lanes l) lane (λ s. s.spare) (λ r. r.spare) in
      let same = ap (λ (s : Shape). s.lanes) (lane_context lane).shape in
      omega (arith, room, same, many)
