use Rattle.topo_order.proofs.Circles.{an-order-has-no-circle}
use Rattle.topo_order.proofs.an_order_has_no_circle.Goals as goal

pub returns : goal.returns
returns c = record { none = λ graph order circle o c. an-order-has-no-circle graph order circle o c }
