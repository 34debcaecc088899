-- What is said of a run.
use Rattle.pool_law.specs.declared.run.Run.{Run}
use Rattle.pool_law.specs.Legal.{IsLegal, logs_of}
use Rattle.run_order.specs.Order.{InOneOrder}
use Rattle.log_order.specs.Playing.{InOrder, IsStuck}
use Rattle.log_order.specs.Precedence.{GoesInACircle, GoInNoCircle}
use Rattle.run_check.specs.Breaches.{Breaks}
use Rattle.play_check.specs.declared.Played.{Played}
use Rattle.play_check.specs.declared.Played.TheVariants.{Illegal, Ordered, Circle, Stuck}

-- it is illegal, since it breaks this part of the law; or it is legal, and its notes are in this order;
-- or in none, since these go in a circle; or none go in a circle, but no lane can go on behind these
abbrev pub Judges : Run → Played → Type 0
Judges run (Illegal breach) = Breaks run breach × (IsLegal run → ⊥)
Judges run (Ordered order) = IsLegal run × InOrder (logs_of run) order.items
Judges run (Circle circle) =
    IsLegal run × GoesInACircle (logs_of run) circle.items × (InOneOrder (logs_of run) → ⊥)
Judges run (Stuck order) =
    IsLegal run × IsStuck (logs_of run) order.items × GoInNoCircle (logs_of run)
