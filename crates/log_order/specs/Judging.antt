-- What is said of the notes of logs.
use Rattle.pool_law.specs.Logs.{Logs}
use Rattle.run_order.specs.Order.{InOneOrder}
use Rattle.log_order.specs.Playing.{InOrder, IsStuck}
use Rattle.log_order.specs.Precedence.{GoesInACircle, GoInNoCircle}
use Rattle.log_order.specs.declared.OrderFound.{OrderFound}
use Rattle.log_order.specs.declared.OrderFound.TheVariants.{Ordered, Circle, Stuck}

-- they are in this order; or in none, since these go in a circle; or none go in a circle, but no lane
-- can go on behind these
abbrev pub Tells : Logs → OrderFound → Type 0
Tells logs (Ordered order) = InOrder logs order.items
Tells logs (Circle circle) = GoesInACircle logs circle.items × (InOneOrder logs → ⊥)
Tells logs (Stuck order) = IsStuck logs order.items × GoInNoCircle logs
