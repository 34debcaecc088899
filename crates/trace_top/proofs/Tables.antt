-- Lanes that workers have stepped.
use Rattle.std.proofs.Common.{ℕ, Bool, List, refl, sym, ◌∙◌, subst}
use Rattle.std.specs.Prelude.{All}
use Rattle.pool_law.specs.declared.command.Command.{Command}
use Rattle.shared_pool.specs.declared.pool.SharedPool.{SharedPool}
use Rattle.lane_core.specs.declared.lane.Lane.{Lane}
use Rattle.lane_core.specs.Lanes.{Heeds, SameLane}
use Rattle.work_table.specs.Places.{EachCame}
use Rattle.work_table.proofs.Places.{all_at}
use Rattle.trace_top.specs.Standing.{AllRun, AreLanes, AreNumbered, HasCome}
use Rattle.trace_top.proofs.Runs.{runs_later}

pub same_lane : (l : Lane) → SameLane l l
same_lane l = record { number = refl; shape = refl; commands = refl }

pub same_later : (a b c : Lane) → SameLane a b → SameLane b c → SameLane a c
same_later a b c ab bc = record {
  number = bc.number ∙ ab.number;
  shape = bc.shape ∙ ab.shape;
  commands = bc.commands ∙ ab.commands;
}

-- what has come of a lane that has come of the first has come of the first
pub came_on : (stops : ℕ → ℕ → Bool) (pool : SharedPool) (first old new : Lane)
    → HasCome stops pool first old → HasCome stops pool old new → HasCome stops pool first new
came_on stops pool first old new before after = record {
  lane = after.lane;
  same = same_later first old new before.same after.same;
  heeds = λ had. subst (λ (n : ℕ). Heeds (stops n) new) before.same.number
      (after.heeds (subst (λ (n : ℕ). Heeds (stops n) old) (sym before.same.number) (before.heeds had)));
}

-- each lane of the pool has come of itself
pub come : (stops : ℕ → ℕ → Bool) (pool : SharedPool) (lanes : List Lane) → AreNumbered stops pool lanes
    → All (λ (l : Lane). HasCome stops pool l l) lanes
come stops pool lanes are =
    all_at (λ (l : Lane). HasCome stops pool l l) lanes
    (λ i l e. record { lane = (are i l e).1; same = same_lane l; heeds = λ heeds. heeds })

-- lanes that have come are of the pool
pub lanes_came : (stops : ℕ → ℕ → Bool) (pool : SharedPool) (firsts lanes : List Lane)
    → EachCame (HasCome stops pool) firsts lanes → AreLanes pool lanes
lanes_came stops pool firsts lanes came i l e = (came i l e).2.lane

-- and run what they ran at first
pub run_still : (trace : List (List Command)) (stops : ℕ → ℕ → Bool) (pool : SharedPool) (firsts lanes : List Lane)
    → EachCame (HasCome stops pool) firsts lanes → AllRun trace stops pool firsts → AllRun trace stops pool lanes
run_still trace stops pool firsts lanes came all i l e =
    let at = came i l e in
    let has = at.2 in
    runs_later trace stops pool i at.0 l (all i at.0 at.1) has.lane has.same has.heeds

pub numbered : (trace : List (List Command)) (stops : ℕ → ℕ → Bool) (pool : SharedPool) (lanes : List Lane)
    → AllRun trace stops pool lanes → AreNumbered stops pool lanes
numbered trace stops pool lanes all i l e = let r = all i l e in (r.number, r.lane, r.heeds)
