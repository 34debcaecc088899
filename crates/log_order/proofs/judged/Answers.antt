use Rattle.std.proofs.Common.{◌≡◌, true, false, sym, ap, subst, arith, ◌∙◌}
use Rattle.std.specs.Prelude.{slice_get}
use Rattle.topo_order.specs.Sorting.{AreNodes, IsOrder, IsCircle, IsSorted}
use Rattle.log_order.specs.Spots.{notes_in}
use Rattle.log_order.specs.Graphs.{AreBack}
use Rattle.log_order.specs.Playing.{InOrder, IsStuck}
use Rattle.log_order.specs.Precedence.{GoesInACircle}
use Rattle.log_order.proofs.Necessary.{no-circle}
use Rattle.log_order.proofs.GraphLemmas.{are-nodes, circle-low, goes-round}
use Rattle.log_order.proofs.PlayLemmas.{in-order}
use Rattle.log_order.proofs.LinkLemmas.{none-round}
use Rattle.log_order.proofs.MoveLemmas.{all-held}
use Rattle.log_order.proofs.judged.Goals as goal

pub returns-then-is_over : goal.returns-then-is_over
returns-then-is_over c =
    let play = c.play_on.new.self in
    let so = c.in_ok-play_on.ensures.so_far in
    subst (InOrder (notes_in c.args.logs.now)) (sym c.into_order.ensures)
    (in-order (notes_in c.args.logs.now) play.next.items play.order.items so.stand so.played
    (c.is_over.ensures.0 c.if-is_over.true))

pub order_of-requires : goal.order_of-requires
order_of-requires c =
    let g = c.args.graph.now in
    subst AreNodes (sym c.deref.ensures.value)
    (are-nodes (notes_in c.args.logs.now) g.spots.items g.needs.items c.requires.graph)

pub places_back-requires : goal.places_back-requires
places_back-requires c k node at =
    let g = c.args.graph.now in
    let found = subst (IsSorted c.deref.result.now) c.in-Circle.is c.in_ok-order_of.ensures in
    let circle : IsCircle g.needs.items c.in-Circle.nodes.items =
    subst (λ z. IsCircle z c.in-Circle.nodes.items) c.deref.ensures.value found in
    omega (
      arith,
      c.requires.graph.as_many,
      circle-low g.needs.items c.in-Circle.nodes.items circle k node
          (ap (λ xs. slice_get xs k) (sym c.deref-in-Circle.ensures.value) ∙ at),
    )

pub returns-in-Ordered : goal.returns-in-Ordered
returns-in-Ordered c =
    let logs = notes_in c.args.logs.now in
    let play = c.play_on.new.self in
    let so = c.in_ok-play_on.ensures.so_far in
    let g = c.args.graph.now in
    let order = c.in-Ordered.field-0.items in
    let found = subst (IsSorted c.deref.result.now) c.in-Ordered.is c.in_ok-order_of.ensures in
    let is : IsOrder g.needs.items order = subst (λ z. IsOrder z order) c.deref.ensures.value found in
    let stuck = subst (IsStuck logs) (sym c.into_order-in-Ordered.ensures)
    (record {
      next = play.next.items;
      stand = so.stand;
      played = so.played;
      left = λ over. let both : true ≡ false = sym (c.is_over.ensures.1 over) ∙ c.if-is_over.false in cc both;
      held = all-held logs play c.in_ok-play_on.ensures.held;
    }) in
    (stuck, λ spots round. none-round logs g order c.requires is spots round)

pub returns-in_ok-circle-in-Circle : goal.returns-in_ok-circle-in-Circle
returns-in_ok-circle-in-Circle c =
    let logs = notes_in c.args.logs.now in
    let g = c.args.graph.now in
    let nodes = c.in-Circle.nodes.items in
    let back = c.in_ok-circle-in-Circle.circle.items in
    let found = subst (IsSorted c.deref.result.now) c.in-Circle.is c.in_ok-order_of.ensures in
    let circle : IsCircle g.needs.items nodes = subst (λ z. IsCircle z nodes) c.deref.ensures.value found in
    let are : AreBack g.spots.items nodes back =
    subst (λ z. AreBack g.spots.items z back) c.deref-in-Circle.ensures.value c.in_ok-circle-in-Circle.ensures in
    let goes : GoesInACircle logs back =
    goes-round logs g.spots.items g.needs.items nodes back c.requires.graph circle are in
    (goes, λ o. no-circle logs o back goes)
